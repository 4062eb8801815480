use Rattle.std.specs.List.{AllZip}
use Rattle.std.proofs.Common.{rules, ◌≡◌, List, [], ◌∷◌, ◌++◌, ℕ, subst, sym}
use Rattle.rls_audit.specs.ShownParts.{ShowsPolicy}
use Rattle.rls_audit.proofs.ZipLemmas.{zip_next, zip_none}
use Rattle.rls_audit.proofs.showing.policy_texts.Goals as goal

pub loop-policy-preserved : goal.loop-policy-preserved
loop-policy-preserved c =
    let at = c.loop-policy in
    let Has = ShowsPolicy c.args.table.now in
    let left = c.next.new.self in
    let next : at.policy-iterator ≡ c.in-Some.policy.now ∷ left = search rules in
    let completes : (more : List (List ℕ)) → AllZip Has more (c.in-Some.policy.now ∷ left) → AllZip Has (at.texts ++ more) c.args.policies.now =
    subst (λ ps. (more : List (List ℕ)) → AllZip Has more ps → AllZip Has (at.texts ++ more) c.args.policies.now) next at.invariant in
    subst (λ texts. (more : List (List ℕ)) → AllZip Has more left → AllZip Has (texts ++ more) c.args.policies.now) (sym c.in_ok-push.ensures.ok)
    (zip_next Has at.texts c.in_ok-text.text c.in-Some.policy.now left c.args.policies.now (subst (Has c.in_ok-text.text) c.get.ensures c.in_ok-text.ensures) completes)

pub returns : goal.returns
returns c =
    let at = c.loop-policy in
    let none : at.policy-iterator ≡ [] = search rules in
    zip_none (ShowsPolicy c.args.table.now) at.texts at.policy-iterator c.args.policies.now none at.invariant
