-- What changes of module texts keep, and which text a name has after them.
use Rattle.std.specs.Prelude.{◌≡◌, ℕ, List, [], Option, Some, None, bytes_eq, if◌then◌else◌}
use Rattle.pipsmake_rules.specs.Neighbours.{name_put}
use Rattle.pipsmake_meaning.specs.Texts.{ModuleText, IsModule, AreModules, names_in, text_of}
use Rattle.session_texts.specs.Modules.{NamesDiffer}
use Rattle.session_texts.specs.Changes.{put, replaced, without}

-- the first of two texts
abbrev pub or_text : Option (List ℕ) → Option (List ℕ) → Option (List ℕ)
or_text None later = later
or_text (Some t) later = Some t

-- ---- one text

-- it is the text of its name, and other names keep theirs
abbrev pub TextOfPut : Type 0
TextOfPut = (u : ModuleText) (ts : List ModuleText) (x : List ℕ) → text_of (put u ts) x ≡ (if bytes_eq u.name x then Some u.text else text_of ts x)

pub record PutKeeps (u : ModuleText) (ts : List ModuleText) : Type 0 where
  pub names : names_in (put u ts) ≡ name_put u.name (names_in ts)
  pub modules : IsModule u → AreModules ts → AreModules (put u ts)
  pub distinct : NamesDiffer ts → NamesDiffer (put u ts)

abbrev pub PutsKeep : Type 0
PutsKeep = (u : ModuleText) (ts : List ModuleText) → PutKeeps u ts

-- ---- several texts

-- each name has the new text, or its old one where there is no new one
abbrev pub TextOfReplaced : Type 0
TextOfReplaced = (ts us : List ModuleText) (x : List ℕ) → NamesDiffer us → text_of (replaced ts us) x ≡ or_text (text_of us x) (text_of ts x)

pub record ReplacedKeeps (ts us : List ModuleText) : Type 0 where
  pub modules : AreModules us → AreModules ts → AreModules (replaced ts us)
  pub distinct : NamesDiffer ts → NamesDiffer (replaced ts us)

abbrev pub ReplacedKeep : Type 0
ReplacedKeep = (ts us : List ModuleText) → ReplacedKeeps ts us

-- where there were none before, they are these
abbrev pub ReplacedNone : Type 0
ReplacedNone = (us : List ModuleText) → NamesDiffer us → replaced [] us ≡ us

-- ---- texts that go

-- the name has no text, and other names keep theirs
abbrev pub TextOfWithout : Type 0
TextOfWithout = (x : List ℕ) (ts : List ModuleText) (y : List ℕ) → text_of (without x ts) y ≡ (if bytes_eq x y then None else text_of ts y)

pub record WithoutKeeps (x : List ℕ) (ts : List ModuleText) : Type 0 where
  pub modules : AreModules ts → AreModules (without x ts)
  pub distinct : NamesDiffer ts → NamesDiffer (without x ts)

abbrev pub WithoutKeep : Type 0
WithoutKeep = (x : List ℕ) (ts : List ModuleText) → WithoutKeeps x ts
