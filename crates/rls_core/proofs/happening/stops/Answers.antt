use Rattle.std.proofs.Common.{◌∙◌, ap, sym, Bool, Result, Ok, Err}
use Rattle.std.specs.Prelude.{cond}
use Rattle.rls_value.specs.declared.refusal.Refusal.{Refusal}
use Rattle.rls_core.specs.declared.answer.Answer.{Answer}
use Rattle.rls_core.specs.declared.answer.Answer.TheVariants.{Refused}
use Rattle.rls_core.proofs.happening.stops.Goals as goal

pub returns-then-is_stop : goal.returns-then-is_stop
returns-then-is_stop c = sym (ap (λ (b : Bool). cond {A = Result Answer Refusal} b (Err c.args.refusal) (Ok (Refused c.args.refusal))) (sym c.is_stop.ensures ∙ c.if-is_stop.true))

pub returns : goal.returns
returns c = sym (ap (λ (b : Bool). cond {A = Result Answer Refusal} b (Err c.args.refusal) (Ok (Refused c.args.refusal))) (sym c.is_stop.ensures ∙ c.if-is_stop.false))
