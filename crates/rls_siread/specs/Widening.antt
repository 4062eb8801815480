-- What lies in what: promotion widens what is noted, and loses nothing of it.
use Rattle.std.specs.Prelude.{◌≡◌, List, ◌||◌, true, Option}
use Rattle.rls_value.specs.declared.object.Object.{Object}
use Rattle.rls_catalog.specs.declared.stored.Keyed.{Keyed}
use Rattle.rls_catalog.specs.Bases.{Base, shows}
use Rattle.rls_source.specs.Footprints.{is_among}

-- what the object shows, the wider one shows
abbrev pub LiesIn : Object → Object → Type 0
LiesIn object wider = (place : Base) (content : Option Keyed) → shows object place content ≡ true → shows wider place content ≡ true

-- each object that was noted, or is read now, lies in one that is noted then
abbrev pub NotesWiden : (List Object → List Object → List Object) → Type 0
NotesWiden note = (noted read : List Object) (object : Object) → (is_among noted object || is_among read object) ≡ true → (wider : Object) × (is_among (note noted read) wider ≡ true) × LiesIn object wider
