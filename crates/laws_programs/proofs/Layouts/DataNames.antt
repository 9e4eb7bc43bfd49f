-- The names in DATA: each stays marked so, whatever more is said.
use Rattle.std.proofs.Common.{◌≡◌, ℕ, suc, Bool, true, false, List, [], ◌∷◌, ◌++◌, Some, None, refl, ap, ◌∙◌, subst}
use Rattle.std.specs.Prelude.{if◌then◌else◌, bytes_eq, is_some}
use Rattle.std.proofs.lemmas.Slice.Eq.{bytes_eq-Decides}
use Rattle.f77_ast.specs.Trees.{ExprTree, ExprTrees}
use Rattle.f77_ast.specs.Trees as tree
use Rattle.f77_ast.specs.DeclTrees.{DataTree, DeclTree}
use Rattle.f77_ast.specs.DeclTrees as decl
use Rattle.f77_names.specs.declared.functions.Function.{Function}
use Rattle.f77_names.specs.declared.lines.Sited.TheVariants.{Decl}
use Rattle.f77_names.specs.Lines.{LineTable, line_or}
use Rattle.f77_names.specs.Entries.{EntryTree, fresh, find, seen, changed, of_entry, as_initial}
use Rattle.f77_names.specs.Appearing.{exprs_seen}
use Rattle.f77_names.specs.Declaring.{Told, item_told, items_told, targets_told, decls_told}
use Rattle.storage_data.specs.Items.{item_name}
use Rattle.laws_programs.proofs.SymbolTables.KeptNames.{Said, with_said, Typed, Shaped, Shared, Parameter, Saved, Initial, Nothing, exprs_keep, decls_keep}
use Rattle.laws_programs.specs.Layout.Layout.{data_in, data_lists}
use Rattle.laws_programs.proofs.Storage.ParameterLaws.{same_name}
use Rattle.laws_programs.proofs.Layouts.CommonNames.{IsFound}

-- ---- a name stays in DATA

abbrev pub InData : List ℕ → List EntryTree → Type 0
InData x es = of_entry false (λ e. e.initial) (find x es) ≡ true

found_still : (x : List ℕ) (es : List EntryTree) (z : EntryTree) → InData x es → InData x (es ++ z ∷ [])
unfolding find
found_still x [] z h = cc
found_still x (e ∷ es) z h = go (bytes_eq x e.name) h (found_still x es z)
  where
    go : (b : Bool) → of_entry false (λ d. d.initial) (if b then Some e else find x es) ≡ true → (of_entry false (λ d. d.initial) (find x es) ≡ true → of_entry false (λ d. d.initial) (find x (es ++ z ∷ [])) ≡ true) → of_entry false (λ d. d.initial) (if b then Some e else find x (es ++ z ∷ [])) ≡ true
    go true k ih = k
    go false k ih = ih k

pub seen_data : (y x : List ℕ) (line : ℕ) (es : List EntryTree) → InData y es → InData y (seen x line es)
seen_data y x line es h = go (is_some (find x es))
  where
    go : (b : Bool) → InData y (if b then es else es ++ fresh x line ∷ [])
    go true = h
    go false = found_still y es (fresh x line) h

pub changed_data : (y x : List ℕ) (f : EntryTree → EntryTree) → ((e : EntryTree) → (f e).name ≡ e.name) → ((e : EntryTree) → e.initial ≡ true → (f e).initial ≡ true) → (es : List EntryTree) → InData y es → InData y (changed x f es)
unfolding find
changed_data y x f names keeps [] h = h
changed_data y x f names keeps (e ∷ es) h = go (bytes_eq x e.name) (bytes_eq y e.name) refl h (changed_data y x f names keeps es)
  where
    go : (a b : Bool) → bytes_eq y e.name ≡ b → of_entry false (λ d. d.initial) (if b then Some e else find y es) ≡ true → (InData y es → InData y (changed x f es)) → of_entry false (λ d. d.initial) (find y (if a then f e ∷ es else e ∷ changed x f es)) ≡ true
    go true true q k ih = ap (λ n. of_entry false (λ d. d.initial) (if bytes_eq y n then Some (f e) else find y es)) (names e) ∙ ap (λ c. of_entry false (λ d. d.initial) (if c then Some (f e) else find y es)) q ∙ keeps e k
    go true false q k ih = ap (λ n. of_entry false (λ d. d.initial) (if bytes_eq y n then Some (f e) else find y es)) (names e) ∙ ap (λ c. of_entry false (λ d. d.initial) (if c then Some (f e) else find y es)) q ∙ k
    go false true q k ih = ap (λ c. of_entry false (λ d. d.initial) (if c then Some e else find y (changed x f es))) q ∙ k
    go false false q k ih = ap (λ c. of_entry false (λ d. d.initial) (if c then Some e else find y (changed x f es))) q ∙ ih k

still_initial : (w : Said) (e : EntryTree) → e.initial ≡ true → (with_said w e).initial ≡ true
still_initial (Typed s) e h = h
still_initial (Shaped line b bs) e h = h
still_initial (Shared line) e h = h
still_initial Parameter e h = h
still_initial Saved e h = h
still_initial Initial e h = refl
still_initial Nothing e h = h

pub said_data : (y x : List ℕ) (w : Said) (es : List EntryTree) → InData y es → InData y (changed x (with_said w) es)
said_data y x w es h = changed_data y x (with_said w) (same_name w) (still_initial w) es h

-- ---- a name that is found

last_found : (x : List ℕ) (line : ℕ) (ds : List EntryTree) → IsFound x (ds ++ fresh x line ∷ [])
unfolding find
last_found x line [] = ap (λ b. is_some (if b then Some (fresh x line) else None)) ((bytes_eq-Decides x x).1 refl)
last_found x line (d ∷ ds) = go (bytes_eq x d.name) (last_found x line ds)
  where
    go : (b : Bool) → IsFound x (ds ++ fresh x line ∷ []) → is_some (if b then Some d else find x (ds ++ fresh x line ∷ [])) ≡ true
    go true h = refl
    go false h = h

self_found : (x : List ℕ) (line : ℕ) (es : List EntryTree) → IsFound x (seen x line es)
self_found x line es = go (is_some (find x es)) refl
  where
    go : (b : Bool) → is_some (find x es) ≡ b → IsFound x (if b then es else es ++ fresh x line ∷ [])
    go true e = e
    go false e = last_found x line es

becomes : (x : List ℕ) (es : List EntryTree) → IsFound x es → InData x (changed x as_initial es)
unfolding find
becomes x [] h = cc
becomes x (e ∷ es) h = go (bytes_eq x e.name) refl h (becomes x es)
  where
    go : (b : Bool) → bytes_eq x e.name ≡ b → is_some (if b then Some e else find x es) ≡ true → (IsFound x es → InData x (changed x as_initial es)) → of_entry false (λ d. d.initial) (find x (if b then as_initial e ∷ es else e ∷ changed x as_initial es)) ≡ true
    go true q k ih = ap (λ c. of_entry false (λ d. d.initial) (if c then Some (as_initial e) else find x es)) q
    go false q k ih = ap (λ c. of_entry false (λ d. d.initial) (if c then Some e else find x (changed x as_initial es))) q ∙ ih k

-- ---- statements

-- the names of these items stand in DATA
abbrev pub AllInData : List ExprTree → List EntryTree → Type 0
AllInData [] es = Unit {0}
AllInData (i ∷ is) es = ((x : List ℕ) → item_name i ≡ Some x → InData x es) × AllInData is es

abbrev pub ListsInData : List DataTree → List EntryTree → Type 0
ListsInData [] es = Unit {0}
ListsInData (g ∷ gs) es = AllInData g.targets es × ListsInData gs es

all_later : (es fs : List EntryTree) → ((x : List ℕ) → InData x es → InData x fs) → (is : List ExprTree) → AllInData is es → AllInData is fs
all_later es fs f [] h = tt
all_later es fs f (i ∷ is) h = (λ x e. f x (h.0 x e), all_later es fs f is h.1)

pub lists_later : (es fs : List EntryTree) → ((x : List ℕ) → InData x es → InData x fs) → (gs : List DataTree) → ListsInData gs es → ListsInData gs fs
lists_later es fs f [] h = tt
lists_later es fs f (g ∷ gs) h = (all_later es fs f g.targets h.0, lists_later es fs f gs h.1)

lists_joined : (gs hs : List DataTree) (es : List EntryTree) → ListsInData gs es → ListsInData hs es → ListsInData (gs ++ hs) es
lists_joined [] hs es h k = k
lists_joined (g ∷ gs) hs es h k = (h.0, lists_joined gs hs es h.1 k)

module _ (fs : List Function) where
  -- what is in DATA stays there at items, and at lists
  items_keep : (y : List ℕ) (is : List ExprTree) (line : ℕ) (t : Told) → InData y t.entries → InData y (items_told fs as_initial is line t).entries
  items_keep y is line t h = decls_keep (InData y) (seen_data y) (said_data y) fs (λ s. Some line) (decl.initial (record { targets = is; values = [] } ∷ []) ∷ []) 0 t h

  lists_keep : (y : List ℕ) (gs : List DataTree) (line : ℕ) (t : Told) → InData y t.entries → InData y (targets_told fs gs line t).entries
  lists_keep y gs line t h = decls_keep (InData y) (seen_data y) (said_data y) fs (λ s. Some line) (decl.initial gs ∷ []) 0 t h

  item_marked : (i : ExprTree) (line : ℕ) (t : Told) (x : List ℕ) → item_name i ≡ Some x → InData x (item_told fs as_initial i line t).entries
  item_marked (tree.name y) line t x e = let same : y ≡ x = cc in subst (λ z. InData z (changed y as_initial (seen y line t.entries))) same (becomes y (seen y line t.entries) (self_found y line t.entries))
  item_marked (tree.element y rest) line t x e =
      let same : y ≡ x = cc in
      let here = becomes y (seen y line t.entries) (self_found y line t.entries) in
      subst (λ z. InData z (exprs_seen fs rest line (changed y as_initial (seen y line t.entries)))) same (exprs_keep (InData y) (seen_data y) (said_data y) fs rest line (changed y as_initial (seen y line t.entries)) here)
  item_marked (tree.int n) line t x e = cc
  item_marked (tree.log b) line t x e = cc
  item_marked (tree.paren y) line t x e = cc
  item_marked (tree.unary o y) line t x e = cc
  item_marked (tree.binary o a b) line t x e = cc
  item_marked (tree.chars y) line t x e = cc

  items_marked : (is : List ExprTree) (line : ℕ) (t : Told) → AllInData is (items_told fs as_initial is line t).entries
  items_marked [] line t = tt
  items_marked (i ∷ is) line t =
      let u = item_told fs as_initial i line t in
      (λ x e. items_keep x is line u (item_marked i line t x e), items_marked is line u)

  lists_marked : (gs : List DataTree) (line : ℕ) (t : Told) → ListsInData gs (targets_told fs gs line t).entries
  lists_marked [] line t = tt
  lists_marked (g ∷ gs) line t =
      let u = items_told fs as_initial g.targets line t in
      (all_later u.entries (targets_told fs gs line u).entries (λ x h. lists_keep x gs line u h) g.targets (items_marked g.targets line t), lists_marked gs line u)

  decl_marked : (at : LineTable) (d : DeclTree) (n : ℕ) (t : Told) → ListsInData (data_in d) (decls_told fs at (d ∷ []) n t).entries
  decl_marked at (decl.initial gs) n t = lists_marked gs (line_or at (Decl n) 0) t
  decl_marked at (decl.implicit ps) n t = tt
  decl_marked at (decl.integer es) n t = tt
  decl_marked at (decl.logical es) n t = tt
  decl_marked at (decl.dimension es) n t = tt
  decl_marked at (decl.parameter ss) n t = tt
  decl_marked at (decl.common cs) n t = tt
  decl_marked at (decl.equivalence gs) n t = tt
  decl_marked at (decl.save is) n t = tt

  -- the names of all items of DATA
  pub decls_marked : (at : LineTable) (ds : List DeclTree) (n : ℕ) (t : Told) → ListsInData (data_lists ds) (decls_told fs at ds n t).entries
  decls_marked at [] n t = tt
  decls_marked at (d ∷ ds) n t =
      let u = decls_told fs at (d ∷ []) n t in
      let last = decls_told fs at ds (suc n) u in
      lists_joined (data_in d) (data_lists ds) last.entries (lists_later u.entries last.entries (λ x h. decls_keep (InData x) (seen_data x) (said_data x) fs at ds (suc n) u h) (data_in d) (decl_marked at d n t)) (decls_marked at ds (suc n) u)
