-- The JSON of changed objects: the object's text, and what it has then.
use Rattle.std.specs.Prelude.{◌≡◌, ◌≤◌, ℕ, List, Bool, true, false, Option, Some, None, option_map, option_and_then}
use Rattle.std.proofs.Common.{refl, ap, ◌∙◌, arith}
use Rattle.serde_json.specs.Data.{Data, array, string, no_items, item, depth}
use Rattle.serde_json.specs.Find.{at, as_str}
use Rattle.serde_json.specs.Written.{has_float}
use Rattle.rls_value.specs.declared.object.Object.{Object}
use Rattle.rls_value.specs.declared.object.Object.TheVariants as o
use Rattle.rls_value.specs.Objects.{object_text}
use Rattle.rls_codec.specs.Looking.{found_where, has_length}
use Rattle.rls_codec.specs.Codec.{Codec}
use Rattle.rls_codec.specs.Codecs.{text, list_of, maybe}
use Rattle.rls_codec.specs.CodecLaws.{both_false}
use Rattle.rls_audit_lines.specs.ValueCodecs.{row}
use Rattle.rls_audit_lines.specs.ContentCodecs.{role_def, membership, table, grant}
use Rattle.rls_audit_lines.specs.Texts.{object_found}
use Rattle.rls_audit_lines.specs.TextLaws.{FitsObject, object_back}
use Rattle.rls_audit_lines.specs.declared.changes.Changed.{Changed}
use Rattle.rls_audit_lines.specs.declared.changes.Changed.TheVariants as c

-- what was changed
abbrev pub object_of : Changed → Object
object_of (c.Role name def) = o.Role name
object_of (c.Members member content) = o.Members member
object_of (c.Table name shape) = o.Table name
object_of (c.Grants table content) = o.Grants table
object_of (c.Policies table texts) = o.Policies table
object_of (c.Row table id values) = o.RowOf table id

-- the JSON of what it has
abbrev pub content_written : Bool → Changed → Data
content_written second (c.Role name def) = role_def.written def
content_written second (c.Members member content) = (list_of membership).written content
content_written second (c.Table name shape) = table.written shape
content_written second (c.Grants name content) = (list_of (grant second)).written content
content_written second (c.Policies name texts) = (list_of text).written texts
content_written second (c.Row name id values) = (maybe row).written values

-- it fits
abbrev pub FitsContent : Bool → Changed → Type 0
FitsContent second (c.Role name def) = role_def.Fits def
FitsContent second (c.Members member content) = (list_of membership).Fits content
FitsContent second (c.Table name shape) = table.Fits shape
FitsContent second (c.Grants name content) = (list_of (grant second)).Fits content
FitsContent second (c.Policies name texts) = (list_of text).Fits texts
FitsContent second (c.Row name id values) = (maybe row).Fits values

-- what the object has by that JSON; of all rows of a table, or those of a key, there is no change
abbrev pub content_found : Bool → Object → Data → Option Changed
content_found second (o.Role name) d = option_map (λ def. c.Role name def) (role_def.found d)
content_found second (o.Members member) d = option_map (λ content. c.Members member content) ((list_of membership).found d)
content_found second (o.Table name) d = option_map (λ shape. c.Table name shape) (table.found d)
content_found second (o.Grants name) d = option_map (λ content. c.Grants name content) ((list_of (grant second)).found d)
content_found second (o.Policies name) d = option_map (λ texts. c.Policies name texts) ((list_of text).found d)
content_found second (o.Rows name) d = None
content_found second (o.Key name key) d = None
content_found second (o.RowOf name id) d = option_map (λ values. c.Row name id values) ((maybe row).found d)

-- the object and its content fit
abbrev pub FitsChanged : Bool → Changed → Type 0
FitsChanged second x = FitsObject (object_of x) × FitsContent second x

-- the object's text, and what it has
abbrev pub changed_written : Bool → Changed → Data
changed_written second x = array (item (string (object_text (object_of x))) (item (content_written second x) no_items))

-- what is changed by that JSON
abbrev pub changed_found : Bool → Data → Option Changed
changed_found second d = found_where (has_length 2 d) (option_and_then (λ object. option_and_then (content_found second object) (at 1 d)) (option_and_then (λ item. option_and_then object_found (as_str item)) (at 0 d)))

content_back : (second : Bool) (x : Changed) → FitsContent second x → content_found second (object_of x) (content_written second x) ≡ Some x
content_back second (c.Role name def) h = ap (option_map (λ x. c.Role name x)) (role_def.back def h)
content_back second (c.Members member content) h = ap (option_map (λ x. c.Members member x)) ((list_of membership).back content h)
content_back second (c.Table name shape) h = ap (option_map (λ x. c.Table name x)) (table.back shape h)
content_back second (c.Grants name content) h = ap (option_map (λ x. c.Grants name x)) ((list_of (grant second)).back content h)
content_back second (c.Policies name texts) h = ap (option_map (λ x. c.Policies name x)) ((list_of text).back texts h)
content_back second (c.Row name id values) h = ap (option_map (λ x. c.Row name id x)) ((maybe row).back values h)

pub changed_back : (second : Bool) (x : Changed) → FitsChanged second x → changed_found second (changed_written second x) ≡ Some x
changed_back second x h = ap (option_and_then (λ object. content_found second object (content_written second x))) (object_back (object_of x) h.0) ∙ content_back second x h.1

content_plain : (second : Bool) (x : Changed) → has_float (content_written second x) ≡ false
content_plain second (c.Role name def) = role_def.plain def
content_plain second (c.Members member content) = (list_of membership).plain content
content_plain second (c.Table name shape) = table.plain shape
content_plain second (c.Grants name content) = (list_of (grant second)).plain content
content_plain second (c.Policies name texts) = (list_of text).plain texts
content_plain second (c.Row name id values) = (maybe row).plain values

pub changed_plain : (second : Bool) (x : Changed) → has_float (changed_written second x) ≡ false
changed_plain second x = both_false (content_plain second x) refl

content_flat : (second : Bool) (x : Changed) → depth (content_written second x) ≤ 3
content_flat second (c.Role name def) = omega (arith, role_def.flat def)
content_flat second (c.Members member content) = omega (arith, (list_of membership).flat content)
content_flat second (c.Table name shape) = table.flat shape
content_flat true (c.Grants name content) = omega (arith, (list_of (grant true)).flat content)
content_flat false (c.Grants name content) = omega (arith, (list_of (grant false)).flat content)
content_flat second (c.Policies name texts) = omega (arith, (list_of text).flat texts)
content_flat second (c.Row name id values) = omega (arith, (maybe row).flat values)

pub changed_flat : (second : Bool) (x : Changed) → depth (changed_written second x) ≤ 4
changed_flat second x = omega (arith, content_flat second x)

-- a changed object
abbrev pub changed : Bool → Codec Changed
changed second = record { Fits = FitsChanged second; written = changed_written second; found = changed_found second; levels = 4; back = changed_back second; plain = changed_plain second; flat = changed_flat second }
