-- Texts, part by part.
use Rattle.std.specs.Prelude.{◌≡◌, ℕ, List, ◌++◌, codes}
use Rattle.std.proofs.Common.{ap, append_assoc, ◌∙◌}
use Rattle.rls_lint.specs.declared.finding.Lookup.TheVariants.{Unreadable}
use Rattle.rls_lint.specs.Texts.{lookup_text, names_text, refused_words}

-- that SELECT is missing, for whom, and what becomes of that
pub lacks_text : (table first with_names words all : List ℕ) (roles : List (List ℕ)) → first ≡ codes "it reads " ++ (table ++ codes ", on which SELECT is missing for ") → with_names ≡ first ++ names_text roles → words ≡ refused_words → all ≡ with_names ++ words
    → all ≡ lookup_text Unreadable table roles
lacks_text table first with_names words all roles begins named said whole =
    whole ∙ (λ i. (named ∙ (λ j. begins j ++ names_text roles)) i ++ said i)
    ∙ append_assoc (codes "it reads " ++ (table ++ codes ", on which SELECT is missing for ")) (names_text roles) refused_words
    ∙ append_assoc (codes "it reads ") (table ++ codes ", on which SELECT is missing for ") (names_text roles ++ refused_words)
    ∙ ap (λ rest. codes "it reads " ++ rest) (append_assoc table (codes ", on which SELECT is missing for ") (names_text roles ++ refused_words))
