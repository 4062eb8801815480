use Rattle.std.proofs.Common.{length, sym, ◌∙◌, ap, arith}
use Rattle.rls_text.specs.Words.{read_now}
use Rattle.rls_text.proofs.Wording.{words_begin, words_none, words_end, words_last, words_more}
use Rattle.rls_text.proofs.words.words_in.Goals as goal

pub loop-turn-init : goal.loop-turn-init
loop-turn-init c = rw c.in_ok-tokens.ensures.items (words_begin (length c.args.chars.now) c.args.chars.now)

pub returns-in_default : goal.returns-in_default
returns-in_default c = sym (c.loop-turn.invariant
    ∙ words_none c.loop-turn.tokens.items c.loop-turn._turn (length c.args.chars.now) c.loop-turn.rest.now c.loop-turn-test.true (c.in_ok-token.ensures ∙ ap read_now c.in_default.is))

pub returns-then-is_last : goal.returns-then-is_last
returns-then-is_last c = c.in_ok-push.ensures.items ∙ sym (c.loop-turn.invariant
    ∙ words_last c.loop-turn.tokens.items c.loop-turn._turn (length c.args.chars.now) c.loop-turn.rest.now c.in-Some.behind.now c.in-Some.token c.loop-turn-test.true
    (c.in_ok-token.ensures ∙ ap read_now c.in-Some.is) (sym c.if-is_last.ensures))

pub loop-turn-preserved : goal.loop-turn-preserved
loop-turn-preserved c = rw c.in_ok-push.ensures.items (c.loop-turn.invariant
    ∙ words_more c.loop-turn.tokens.items c.loop-turn._turn (length c.args.chars.now) c.loop-turn.rest.now c.in-Some.behind.now c.in-Some.token c.loop-turn-test.true
    (c.in_ok-token.ensures ∙ ap read_now c.in-Some.is) (sym c.if-is_last.ensures))

pub returns : goal.returns
returns c = sym (c.loop-turn.invariant
    ∙ words_end c.loop-turn.tokens.items c.loop-turn._turn (length c.args.chars.now) c.loop-turn.rest.now (omega (arith, c.loop-turn-test.false)))
