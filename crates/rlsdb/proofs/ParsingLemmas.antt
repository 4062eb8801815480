-- What is written of lines that aren't taken.
use Rattle.std.proofs.Common.{◌≡◌, refl, ◌++◌, [], ℕ, Bool, true, false, List, sym, ap, subst, ◌∙◌, append-nil, append_assoc}
use Rattle.rls_session.specs.rls_script.specs.Streams.{GrewBy}
use Rattle.rlsdb.specs.Answers.{IsParsed}

-- where all is taken nothing is written
pub none_parsed : (bytes : List ℕ) → GrewBy bytes bytes (λ written. IsParsed written true)
none_parsed bytes = record { more = []; grew = sym (append-nil bytes); fact = λ h. refl }

-- where something isn't taken anything may be
pub some_parsed : (old new more : List ℕ) → new ≡ old ++ more → GrewBy old new (λ written. IsParsed written false)
some_parsed old new more grew = record { more = more; grew = grew; fact = λ h. cc h }

-- so it is of two, one behind the other: where the first is taken, as of the second
pub more_parsed : (old middle new : List ℕ) (fine : Bool) → GrewBy old middle (λ written. IsParsed written true) → GrewBy middle new (λ written. IsParsed written fine) → GrewBy old new (λ written. IsParsed written fine)
more_parsed old middle new fine one other =
    let same : middle ≡ old = one.grew ∙ ap (λ more. old ++ more) (one.fact refl) ∙ append-nil old in
    subst (λ bytes. GrewBy bytes new (λ written. IsParsed written fine)) same other

-- where it isn't, the two aren't
pub no_more_parsed : (old middle new : List ℕ) (fine : Bool) → GrewBy old middle (λ written. IsParsed written false) → GrewBy middle new (λ written. IsParsed written fine) → GrewBy old new (λ written. IsParsed written false)
no_more_parsed old middle new fine one other =
    some_parsed old new (one.more ++ other.more) (other.grew ∙ ap (λ bytes. bytes ++ other.more) one.grew ∙ append_assoc old one.more other.more)
