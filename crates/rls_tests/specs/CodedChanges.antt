-- The JSON of changes and grants.
use Rattle.std.proofs.Common.{refl}
use Rattle.rls_codec.specs.Codec.{Codec}
use Rattle.rls_codec.specs.Codecs.{text, flag, list_of, pair, maybe, via}
use Rattle.rls_codec.specs.Arrays.{part, no_more, tuple}
use Rattle.rls_tests.specs.CodedValues.{datum}
use Rattle.rls_tests.specs.declared.coded_changes.Change.{Change}
use Rattle.rls_tests.specs.declared.coded_changes.Grant.{Grant}

-- an object and what it has
abbrev pub change : Codec Change
change = via (λ c. (c.object, c.content)) (λ p. record { object = p.0; content = p.1 }) (λ c. refl) (pair text (maybe (list_of datum)))

-- a grant
abbrev pub grant : Codec Grant
grant = via (λ g. (g.privilege, (g.grantee, (g.option, tt)))) (λ p. record { privilege = p.0; grantee = p.1.0; option = p.1.1.0 }) (λ g. refl)
    (tuple (part text (part text (part flag no_more))))
