use Rattle.std.proofs.Common.{length, sym, ◌∙◌, ap, Some, string_bytes, arith}
use Rattle.rls_text.specs.declared.token.Token.TheVariants as t
use Rattle.rls_text.specs.Words.{quoted, text_from}
use Rattle.rls_text.proofs.Wording.{quoted_begins, quoted_open, quoted_out, quoted_ends, quoted_more}
use Rattle.rls_text.proofs.words.quoted.Goals as goal

pub loop-turn-init : goal.loop-turn-init
loop-turn-init c = rw c.new-content.ensures.bytes (quoted_begins (length c.args.chars.now) c.args.chars.now)

pub returns-in_default : goal.returns-in_default
unfolding quoted
returns-in_default c = ap (text_from c.args.chars.now) (c.loop-turn.invariant
    ∙ quoted_open (string_bytes c.loop-turn.content) c.loop-turn._turn (length c.args.chars.now) c.loop-turn.rest.now c.loop-turn-test.true c.in_default.ensures)

pub returns-in_default-part : goal.returns-in_default-part
unfolding quoted
returns-in_default-part c = ap (text_from c.args.chars.now) (c.loop-turn.invariant
    ∙ quoted_ends (string_bytes c.loop-turn.content) c.loop-turn._turn (length c.args.chars.now) c.loop-turn.rest.now c.in-Some.behind.now c.loop-turn-test.true
    (c.in-Some.ensures ∙ ap (λ part. Some (part, c.in-Some.behind.now)) c.in_default-part.is))
    ∙ ap (λ content. (t.Text content, c.in-Some.behind.now)) (sym c.in_ok-from_string.ensures)

pub loop-turn-preserved : goal.loop-turn-preserved
loop-turn-preserved c = rw c.in_ok-push.ensures.bytes (c.loop-turn.invariant
    ∙ quoted_more (string_bytes c.loop-turn.content) c.loop-turn._turn (length c.args.chars.now) c.in-Some-part.letter c.loop-turn.rest.now c.in-Some.behind.now c.loop-turn-test.true
    (c.in-Some.ensures ∙ ap (λ part. Some (part, c.in-Some.behind.now)) c.in-Some-part.is))

pub returns : goal.returns
unfolding quoted
returns c = ap (text_from c.args.chars.now) (c.loop-turn.invariant
    ∙ quoted_out (string_bytes c.loop-turn.content) c.loop-turn._turn (length c.args.chars.now) c.loop-turn.rest.now (omega (arith, c.loop-turn-test.false)))
