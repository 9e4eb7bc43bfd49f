-- Names without the lines where something is said of them.
use Rattle.std.proofs.Common.{◌≡◌, ℕ, Bool, true, false, List, [], ◌∷◌, ◌++◌, map, Option, Some, None, refl, sym, ap, ◌∙◌}
use Rattle.std.specs.Prelude.{if◌then◌else◌, bytes_eq, is_some}
use Rattle.std.proofs.lemmas.List.{map-append}
use Rattle.f77_names.specs.Lines.{LineTable}
use Rattle.f77_names.specs.Entries.{ShapeTree, EntryTree, fresh, find, seen, changed, of_entry, has_dummy, has_type, has_shape, has_common, has_value, is_parameter, value_among}
use Rattle.f77_names.specs.Tables.{NameTable}

-- no line is known
abbrev pub no_lines : LineTable
no_lines s = None

abbrev pub bare_shape : Option ShapeTree → Option ShapeTree
bare_shape None = None
bare_shape (Some s) = Some (record { line = 0; bounds = s.bounds })

abbrev pub bare_line : Option ℕ → Option ℕ
bare_line None = None
bare_line (Some line) = Some 0

abbrev pub bare : EntryTree → EntryTree
bare e = record {
  name = e.name;
  line = 0;
  dummy = e.dummy;
  scalar = e.scalar;
  shape = bare_shape e.shape;
  common = bare_line e.common;
  parameter = e.parameter;
  value = e.value;
  saved = e.saved;
  initial = e.initial;
}

abbrev pub bares : List EntryTree → List EntryTree
bares es = map bare es

abbrev pub bare_found : Option EntryTree → Option EntryTree
bare_found None = None
bare_found (Some e) = Some (bare e)

abbrev pub bare_table : NameTable → NameTable
bare_table t = record { entries = bares t.entries; kinds = t.kinds; arrays = t.arrays }

-- the same names, but for lines, which the second have not
pub record Bare (es ds : List EntryTree) : Type 0 where
  pub is : bares es ≡ ds

-- ---- what is found of a name

some_chosen : (b : Bool) (e : EntryTree) (o p : Option EntryTree) → o ≡ bare_found p → (if b then Some (bare e) else o) ≡ bare_found (if b then Some e else p)
some_chosen true e o p h = refl
some_chosen false e o p h = h

pub find_bare : (x : List ℕ) (es : List EntryTree) → find x (bares es) ≡ bare_found (find x es)
unfolding find
find_bare x [] = refl
find_bare x (e ∷ es) = some_chosen (bytes_eq x e.name) e (find x (bares es)) (find x es) (find_bare x es)

of_found : {A : Type 0} (other : A) (f g : EntryTree → A) → ((e : EntryTree) → f e ≡ g (bare e)) → (o : Option EntryTree) → of_entry other f o ≡ of_entry other g (bare_found o)
of_found other f g h None = refl
of_found other f g h (Some e) = h e

-- a question on a name that does not ask for lines
pub asked : {A : Type 0} (other : A) (f g : EntryTree → A) → ((e : EntryTree) → f e ≡ g (bare e)) → (x : List ℕ) (es : List EntryTree)
    → of_entry other f (find x es) ≡ of_entry other g (find x (bares es))
asked other f g h x es = of_found other f g h (find x es) ∙ ap (of_entry other g) (sym (find_bare x es))

pub some_shape : (s : Option ShapeTree) → is_some s ≡ is_some (bare_shape s)
some_shape None = refl
some_shape (Some s) = refl

pub some_line : (l : Option ℕ) → is_some l ≡ is_some (bare_line l)
some_line None = refl
some_line (Some l) = refl

pub dummy_bare : (x : List ℕ) (es : List EntryTree) → has_dummy x es ≡ has_dummy x (bares es)
dummy_bare x es = asked false (λ e. is_some e.dummy) (λ e. is_some e.dummy) (λ e. refl) x es

pub type_bare : (x : List ℕ) (es : List EntryTree) → has_type x es ≡ has_type x (bares es)
type_bare x es = asked false (λ e. is_some e.scalar) (λ e. is_some e.scalar) (λ e. refl) x es

pub shape_bare : (x : List ℕ) (es : List EntryTree) → has_shape x es ≡ has_shape x (bares es)
shape_bare x es = asked false (λ e. is_some e.shape) (λ e. is_some e.shape) (λ e. some_shape e.shape) x es

pub common_bare : (x : List ℕ) (es : List EntryTree) → has_common x es ≡ has_common x (bares es)
common_bare x es = asked false (λ e. is_some e.common) (λ e. is_some e.common) (λ e. some_line e.common) x es

pub has_value_bare : (x : List ℕ) (es : List EntryTree) → has_value x es ≡ has_value x (bares es)
has_value_bare x es = asked false (λ e. is_some e.value) (λ e. is_some e.value) (λ e. refl) x es

pub parameter_bare : (x : List ℕ) (es : List EntryTree) → is_parameter x es ≡ is_parameter x (bares es)
parameter_bare x es = asked false (λ e. e.parameter) (λ e. e.parameter) (λ e. refl) x es

pub value_bare : (es : List EntryTree) (x : List ℕ) → value_among es x ≡ value_among (bares es) x
value_bare es x = asked None (λ e. e.value) (λ e. e.value) (λ e. refl) x es

-- the same of names that are the same
pub of_bare : {A : Type 0} {es ds : List EntryTree} (f : List EntryTree → A) → f es ≡ f (bares es) → Bare es ds → f es ≡ f ds
of_bare f e h = e ∙ ap f h.is

-- ---- more is said of a name

seen_by : (b : Bool) (x : List ℕ) (line : ℕ) (es : List EntryTree) → bares (if b then es else es ++ fresh x line ∷ []) ≡ (if b then bares es else bares es ++ fresh x 0 ∷ [])
seen_by true x line es = refl
seen_by false x line es = map-append bare es (fresh x line ∷ [])

is_found : (o : Option EntryTree) → is_some o ≡ is_some (bare_found o)
is_found None = refl
is_found (Some e) = refl

seen_bare : (x : List ℕ) (line : ℕ) (es : List EntryTree) → bares (seen x line es) ≡ seen x 0 (bares es)
seen_bare x line es =
    seen_by (is_some (find x es)) x line es
    ∙ ap (λ b. if b then bares es else bares es ++ fresh x 0 ∷ []) (is_found (find x es) ∙ ap is_some (sym (find_bare x es)))

pub seen_same : (x : List ℕ) (line : ℕ) {es ds : List EntryTree} → Bare es ds → Bare (seen x line es) (seen x 0 ds)
seen_same x line {es} {ds} h = record { is = seen_bare x line es ∙ ap (seen x 0) h.is }

changed_by : (b : Bool) (x : List ℕ) (f g : EntryTree → EntryTree) (e : EntryTree) (es : List EntryTree) → bare (f e) ≡ g (bare e) → bares (changed x f es) ≡ changed x g (bares es)
    → bares (if b then f e ∷ es else e ∷ changed x f es) ≡ (if b then g (bare e) ∷ bares es else bare e ∷ changed x g (bares es))
changed_by true x f g e es h ih = ap (λ d. d ∷ bares es) h
changed_by false x f g e es h ih = ap (λ ds. bare e ∷ ds) ih

changed_bare : (x : List ℕ) (f g : EntryTree → EntryTree) → ((e : EntryTree) → bare (f e) ≡ g (bare e)) → (es : List EntryTree) → bares (changed x f es) ≡ changed x g (bares es)
changed_bare x f g h [] = refl
changed_bare x f g h (e ∷ es) = changed_by (bytes_eq x e.name) x f g e es (h e) (changed_bare x f g h es)

pub changed_same : (x : List ℕ) (f g : EntryTree → EntryTree) → ((e : EntryTree) → bare (f e) ≡ g (bare e)) → {es ds : List EntryTree} → Bare es ds → Bare (changed x f es) (changed x g ds)
changed_same x f g k {es} {ds} h = record { is = changed_bare x f g k es ∙ ap (changed x g) h.is }
