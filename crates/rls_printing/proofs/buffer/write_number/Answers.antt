use Rattle.std.proofs.Common.{ap, ◌∙◌, ◌<◌, ◌^◌, rules}
use Rattle.std.specs.Fmt.{signed_decimal}
use Rattle.std.specs.Str.{chars}
use Rattle.std.proofs.lemmas.Int.{to_z-of_z}
use lib.Signed.{mag}
use mir.Syntax.{w64}
use mir.Val.{to_z, of_z}
use Rattle.rls_printing.proofs.OutputLemmas.{text_writes, chars_signed}
use Rattle.rls_printing.proofs.buffer.write_number.Goals as goal

pub returns : goal.returns
returns c =
    let small : mag c.args.number < 2 ^ 63 = search rules in
    text_writes c.write.result c.args.text.now c.write.new.self (signed_decimal (to_z w64 (of_z w64 c.args.number))) (signed_decimal c.args.number) c.write.ensures.bytes
    (ap (λ z. chars (signed_decimal z)) (to_z-of_z w64 c.args.number c.ranges.number) ∙ chars_signed c.args.number small)
