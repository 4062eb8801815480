-- How many items and members there are.
use Rattle.std.proofs.Common.{◌≡◌, ℕ, List, length, Some, option_map, unwrap_or, false, ◌==◌, String, Global, sym, ap, ◌∙◌}
use Rattle.serde_json.specs.Data.{Data}
use Rattle.serde_json.specs.Find.{as_array, as_object}
use Rattle.serde_json.specs.Events.{items_len, members_len}
use Rattle.serde_json.specs.View.{items_view, members_view}
use Rattle.serde_json.specs.declared.value.Value.{Value}
use Rattle.serde_json.proofs.Views.{items_len-items_view, members_len-members_view}
use Rattle.rls_codec.specs.Looking.{has_length, has_size}

pub items_counted : (vs : List Value) (n : ℕ) (d : Data) → Some (items_view vs) ≡ as_array d → (length vs == n) ≡ has_length n d
items_counted vs n d e = ap (λ k. k == n) (sym (items_len-items_view vs)) ∙ ap (λ o. unwrap_or (option_map (λ ds. items_len ds == n) o) false) e

pub members_counted : (es : List (String Global × Value)) (n : ℕ) (d : Data) → Some (members_view es) ≡ as_object d → (length es == n) ≡ has_size n d
members_counted es n d e = ap (λ k. k == n) (sym (members_len-members_view es)) ∙ ap (λ o. unwrap_or (option_map (λ ms. members_len ms == n) o) false) e
