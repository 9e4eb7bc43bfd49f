-- A local whose name allows copies shares no unit with another variable.
use Rattle.std.proofs.Common.{◌≡◌, ◌⊎◌, inl, inr, ⊎_elim, ℕ, zero, suc, ◌+◌, ◌-◌, ◌<◌, ◌||◌, ◌&&◌, Bool, true, false, List, [], ◌∷◌, ◌++◌, length, Option, Some, None, arith, refl, sym, ap, ◌∙◌, subst, nat_eq, true≢false}
use Rattle.std.specs.Prelude.{if◌then◌else◌, is_some, not, slice_get, unwrap_or, bytes_eq, Ok}
use Rattle.std.specs.List.{list_any}
use Rattle.std.proofs.lemmas.Bool.{and_parts, not-true, or_left, or_right, eq-eqb}
use Rattle.std.proofs.lemmas.Bool.Decides.{nat_tests}
use Rattle.std.proofs.lemmas.Slice.Eq.{bytes_eq-Decides}
use Rattle.f77_ast.specs.Trees.{ExprTree}
use Rattle.f77_ast.specs.DeclTrees.{DeclTree, ParsedTree}
use Rattle.f77_ast.specs.DeclTrees as decl
use Rattle.f77_ast.specs.declared.constant.Constant.{Constant}
use Rattle.f77_ast.specs.declared.symbol.Place.{Place}
use Rattle.f77_ast.specs.declared.symbol.Place.TheVariants as place
use Rattle.f77_ast.specs.declared.variable.Variable.{Variable}
use Rattle.f77_ast.specs.declared.variable.Variable.TheVariants as variable
use Rattle.f77_ast.specs.Symbols.{SymbolTree, number_from}
use Rattle.f77_ast.specs.Units.{units_in}
use Rattle.f77_ast.specs.Shared.{OneUnit, group_unit, unit_after, HasUnit, share, symbol_at, share_maybe, numbers_share, is_in, is_symbol_in, lies_in}
use Rattle.f77_ast.proofs.SharingLaws.{sharing_is_of_units}
use Rattle.f77_names.specs.Entries.{EntryTree}
use Rattle.tracked_cells.specs.Equivalences.{item_names, group_names, decl_names, decls_names}
use Rattle.laws_programs.specs.storage_data.declared.offset_node.Home.{Home}
use Rattle.laws_programs.specs.storage_data.declared.offset_node.Home.TheVariants.{Block, Own}
use Rattle.laws_programs.specs.storage_data.declared.offset_node.OffsetNode.{OffsetNode}
use Rattle.storage_layout.specs.Groups.{groups_from, index_from}
use Rattle.storage_layout.specs.Statements.{Has, equivalences_in, equivalences, members}
use Rattle.storage_layout.specs.Symbols.{symbols_of}
use Rattle.storage_layout.specs.Table.{group_in, home_place, place_in, unless_dummy, unless_value}
use Rattle.f77_meaning.specs.Modules.{symbol_names}
use Rattle.laws_programs.specs.SymbolTables.Shapes.{symbol_named}
use Rattle.laws_programs.proofs.SymbolTables.Answers.{Answered, names_in, layout_in, answered_by}
use Rattle.laws_programs.proofs.SymbolTables.EntryLaws.{entry_of}
use Rattle.laws_programs.specs.Storage.DataLaws.{ConstantsFit}
use Rattle.laws_programs.specs.Layout.Laws.{IsNumbered}
use Rattle.laws_programs.specs.Layout.Layout.{LieInARow, Together, in_block, in_group, IsChain, Chained}
use Rattle.laws_programs.proofs.Layouts.CommonLaws.{common_follows_the_text}
use Rattle.laws_programs.proofs.Layouts.EndLaws.{count_shared}
use Rattle.laws_programs.proofs.Layouts.SharingLaws.{sharing_has_a_chain, index_least}
use Rattle.laws_analyses.proofs.Regions.NamesOnce.{numbered_once}
use Rattle.laws_marks.proofs.InGrouped.{groups_have}
use Rattle.laws_marks.proofs.InValued.{parameters_have_values}
use Rattle.loop_marker.specs.privatizer.Names.{is_equivalenced, is_own_symbol, may_copy}
use Rattle.laws_analyses.proofs.IntegerLaws.{integers_fit}
use Rattle.laws_programs.proofs.Tables.{programs_are_linked}
use Rattle.laws_marks.specs.ConflictClaims.{IsSole}
use Rattle.laws_marks.specs.ConflictAccepted.{CopiesAreSole}
use Rattle.f77_ast.proofs.StorageLaws.{from_number as numbered_place}
use Rattle.call_graph.specs.Visible.{is_local}

-- ---- names

record FirstAt (ss : List SymbolTree) (k n : ℕ) (s : SymbolTree) : Type 0 where
  at : ℕ
  is : n ≡ k + at
  found : slice_get ss at ≡ Some s

-- the first symbol of a name is that of its number
first_at : (ss : List SymbolTree) (x : List ℕ) (s : SymbolTree) (k n : ℕ) → symbol_named ss x ≡ Some s → number_from k (symbol_names ss) x ≡ Some n → FirstAt ss k n s
first_at [] x s k n e f = cc
first_at (y ∷ ys) x s k n e f = go (bytes_eq x y.name) e f (λ i j. first_at ys x s (suc k) n i j)
  where
    go : (b : Bool) → (if b then Some y else symbol_named ys x) ≡ Some s → (if b then Some k else number_from (suc k) (symbol_names ys) x) ≡ Some n → (symbol_named ys x ≡ Some s → number_from (suc k) (symbol_names ys) x ≡ Some n → FirstAt ys (suc k) n s) → FirstAt (y ∷ ys) k n s
    go true i j ih = (let here : k ≡ n = cc in let one : y ≡ s = cc in record { at = 0; is = omega (arith, here); found = ap Some one })
    go false i j ih = (let r = ih i j in let later = r.is in record { at = suc r.at; is = omega (arith, later); found = r.found })

-- a member of a block lies in it
record InRow (ss : List SymbolTree) (b x : List ℕ) : Type 0 where
  symbol : SymbolTree
  named : symbol_named ss x ≡ Some symbol
  offset : ℕ
  lies : symbol.place ≡ place.Block b offset

row_place : (ss : List SymbolTree) (b : List ℕ) (n : ℕ) (xs : List (List ℕ)) → LieInARow ss b n xs → (x : List ℕ) (i : ℕ) → slice_get xs i ≡ Some x → InRow ss b x
row_place ss b n [] l x i e = cc
row_place ss b n (y ∷ ys) l x zero e = (let same : y ≡ x = cc in record { symbol = l.0; named = ap (symbol_named ss) (sym same) ∙ l.1; offset = n; lies = l.2 })
row_place ss b n (y ∷ ys) l x (suc i) e = row_place ss b (n + units_in ss l.0) ys l.3 x i e

-- ---- EQUIVALENCE

has_parts : {A : Type 0} (xs ys : List A) (a : A) (i : ℕ) → slice_get (xs ++ ys) i ≡ Some a → Has xs a ⊎ Has ys a
has_parts [] ys a i e = inr (i, e)
has_parts (x ∷ xs) ys a zero e = inl (0, e)
has_parts (x ∷ xs) ys a (suc i) e = ⊎_elim (λ h. inl (suc h.0, h.1)) (λ h. inr h) (has_parts xs ys a i e)

any_left : (f : List ℕ → Bool) (xs ys : List (List ℕ)) → list_any f xs ≡ true → list_any f (xs ++ ys) ≡ true
any_left f [] ys h = absurd (true≢false (sym h))
any_left f (x ∷ xs) ys h = go (f x) h (λ q. any_left f xs ys q)
  where
    go : (b : Bool) → (b || list_any f xs) ≡ true → (list_any f xs ≡ true → list_any f (xs ++ ys) ≡ true) → (b || list_any f (xs ++ ys)) ≡ true
    go true q ih = refl
    go false q ih = ih q

any_right : (f : List ℕ → Bool) (xs ys : List (List ℕ)) → list_any f ys ≡ true → list_any f (xs ++ ys) ≡ true
any_right f [] ys h = h
any_right f (x ∷ xs) ys h = or_right (f x) (list_any f (xs ++ ys)) (any_right f xs ys h)

any_has : (xs : List (List ℕ)) (x : List ℕ) (i : ℕ) → slice_get xs i ≡ Some x → list_any (bytes_eq x) xs ≡ true
any_has [] x i e = cc
any_has (y ∷ ys) x zero e = (let same : y ≡ x = cc in or_left (bytes_eq x y) (list_any (bytes_eq x) ys) ((bytes_eq-Decides x y).1 (sym same)))
any_has (y ∷ ys) x (suc i) e = or_right (bytes_eq x y) (list_any (bytes_eq x) ys) (any_has ys x i e)

group_named : (gs : List (List ExprTree)) (g : List ExprTree) (x : List ℕ) (i : ℕ) → slice_get gs i ≡ Some g → list_any (bytes_eq x) (item_names g) ≡ true → list_any (bytes_eq x) (group_names gs) ≡ true
group_named [] g x i e h = cc
group_named (f ∷ gs) g x zero e h = (let same : f ≡ g = cc in any_left (bytes_eq x) (item_names f) (group_names gs) (subst (λ z. list_any (bytes_eq x) (item_names z) ≡ true) (sym same) h))
group_named (f ∷ gs) g x (suc i) e h = any_right (bytes_eq x) (item_names f) (group_names gs) (group_named gs g x i e h)

none_has : {A : Type 0} (a : A) (i : ℕ) → slice_get [] i ≡ Some a → ⊥
none_has a i e = cc

decl_named : (d : DeclTree) (g : List ExprTree) (x : List ℕ) (i : ℕ) → slice_get (equivalences_in d) i ≡ Some g → list_any (bytes_eq x) (item_names g) ≡ true → list_any (bytes_eq x) (decl_names d) ≡ true
decl_named (decl.implicit ps) g x i e h = absurd (none_has g i e)
decl_named (decl.integer es) g x i e h = absurd (none_has g i e)
decl_named (decl.logical es) g x i e h = absurd (none_has g i e)
decl_named (decl.dimension es) g x i e h = absurd (none_has g i e)
decl_named (decl.parameter ss) g x i e h = absurd (none_has g i e)
decl_named (decl.common cs) g x i e h = absurd (none_has g i e)
decl_named (decl.equivalence gs) g x i e h = group_named gs g x i e h
decl_named (decl.save is) g x i e h = absurd (none_has g i e)
decl_named (decl.initial gs) g x i e h = absurd (none_has g i e)

decls_named : (ds : List DeclTree) (g : List ExprTree) (x : List ℕ) (i : ℕ) → slice_get (equivalences ds) i ≡ Some g → list_any (bytes_eq x) (item_names g) ≡ true → list_any (bytes_eq x) (decls_names ds) ≡ true
decls_named [] g x i e h = absurd (none_has g i e)
decls_named (d ∷ ds) g x i e h = ⊎_elim
    (λ q. any_left (bytes_eq x) (decl_names d) (decls_names ds) (decl_named d g x q.0 q.1 h))
    (λ q. any_right (bytes_eq x) (decl_names d) (decls_names ds) (decls_named ds g x q.0 q.1 h))
    (has_parts (equivalences_in d) (equivalences ds) g i e)

-- ---- a table

module _ (p : ParsedTree) (ss : List SymbolTree) (laid : symbols_of p ≡ Ok ss) (fit : ConstantsFit ss) (n : ℕ) (s : SymbolTree) (is_symbol : symbol_at ss n ≡ Some s) (g o : ℕ) (lies : s.place ≡ place.Local g o) (apart : is_equivalenced p.module_read s.name ≡ false) where
  here : slice_get ss (n - 1) ≡ Some s
  here = numbered_place ss n s is_symbol

  -- its name is in no statement together with another
  together : (z : List ℕ) → Together p.module_read.decls s.name z → ⊥
  together z (in_block b x y) =
      let r = row_place ss b 0 (members b p.module_read.decls) (common_follows_the_text p ss laid fit b) s.name x.0 x.1 in
      let f = first_at ss s.name r.symbol 1 n r.named (numbered_once p ss laid n s is_symbol) in
      let number = f.is in
      let at : f.at ≡ n - 1 = omega (arith, number) in
      let same : Some r.symbol ≡ Some s = sym f.found ∙ (ap (slice_get ss) at ∙ here) in
      let one : r.symbol ≡ s = cc in
      differ (sym lies ∙ (ap (λ (t : SymbolTree). t.place) (sym one) ∙ r.lies))
    where
      differ : {b : List ℕ} {k : ℕ} → place.Local g o ≡ place.Block b k → ⊥
      differ e = cc
  together z (in_group e w x y) = true≢false (sym (decls_named p.module_read.decls e s.name w.0 w.1 (any_has (item_names e) s.name x.0 x.1)) ∙ apart)

  chain : (z : List ℕ) → Chained p.module_read.decls s.name z → ⊥
  chain z (between, c) = go between c
    where
      go : (zs : List (List ℕ)) → IsChain p.module_read.decls s.name zs z → ⊥
      go [] c = together z c
      go (y ∷ zs) c = together y c.0

  -- ---- storage groups are numbered from 1

  a : Answered p ss
  a = answered_by p ss laid

  has_one : {A : Type 0} (xs : List A) (ys : List EntryTree) (i : ℕ) (e : EntryTree) → length xs ≡ length ys → slice_get ys i ≡ Some e → slice_get xs i ≡ None → ⊥
  has_one [] [] i e l q r = cc
  has_one [] (y ∷ ys) i e l q r = (let z : 0 ≡ suc (length ys) = l in absurd (omega (arith, z)))
  has_one (x ∷ xs) [] i e l q r = cc
  has_one (x ∷ xs) (y ∷ ys) zero e l q r = cc
  has_one (x ∷ xs) (y ∷ ys) (suc i) e l q r = (let z : suc (length xs) ≡ suc (length ys) = l in has_one xs ys i e (omega (arith, z)) q r)

  grouped : (m : ℕ) (e : EntryTree) → slice_get (names_in p).entries m ≡ Some e → (v : Option Constant) → e.value ≡ v → (d : Option ℕ) → e.dummy ≡ d → (w : Option OffsetNode) → slice_get (layout_in p).offset_nodes m ≡ w → unless_value v (unless_dummy d (place_in (layout_in p) w)) ≡ place.Local g o → 0 < g
  grouped m e q (Some c) ev d ed w ew r = cc
  grouped m e q None ev (Some k) ed w ew r = cc
  grouped m e q None ev None ed None ew r = absurd (has_one (layout_in p).offset_nodes (names_in p).entries m e (count_shared p) q ew)
  grouped m e q None ev None ed (Some t) ew r = go t.home refl r
    where
      no_parameter : (b : Bool) → e.parameter ≡ b → e.parameter ≡ false
      no_parameter true h = absurd (true≢false (sym (parameters_have_values p ss a m e q h) ∙ ap is_some ev))
      no_parameter false h = h

      no_more : (m : ℕ) → 0 + m ≡ m
      no_more m = omega arith

      least : (k : ℕ) (x : Option ℕ) → index_from 1 (groups_from 0 (layout_in p).table.entries (layout_in p).offset_nodes []) k ≡ x → is_some x ≡ true → unwrap_or x 0 ≡ g → 0 < g
      least k None f h u = absurd (true≢false (sym h))
      least k (Some y) f h u = (let low = index_least 1 (groups_from 0 (layout_in p).table.entries (layout_in p).offset_nodes []) k y f in let same : y ≡ g = u in omega (arith, low, same))

      go : (x : Home) → t.home ≡ x → home_place (layout_in p) t.offset x ≡ place.Local g o → 0 < g
      go (Block b) f h = cc
      go (Own k) f h =
          let group : group_in (layout_in p) k ≡ g = cc in
          least k (index_from 1 (groups_from 0 (layout_in p).table.entries (layout_in p).offset_nodes []) k) refl
          (groups_have 0 (layout_in p).table.entries (layout_in p).offset_nodes [] m e t k q ed (no_parameter e.parameter refl) (ap (slice_get (layout_in p).offset_nodes) (no_more m) ∙ ew) f) group

  positive : 0 < g
  positive =
      let r = entry_of (layout_in p) 0 (names_in p).entries (n - 1) s (subst (λ z. slice_get z (n - 1) ≡ Some s) a.table here) in
      let place_is = r.is_place in
      let at : n - 1 ≡ r.place = omega (arith, place_is) in
      grouped r.place r.entry (ap (slice_get (names_in p).entries) (sym at) ∙ r.is_entry) r.entry.value refl r.entry.dummy refl (slice_get (layout_in p).offset_nodes r.place) refl (ap (λ (z : SymbolTree). z.place) (sym r.symbol) ∙ lies)

  -- ---- no unit in common

  -- its units are of a storage group with a number
  numbered_unit : (u : OneUnit) → HasUnit ss s u → IsNumbered u
  numbered_unit u (k, a, e) =
      let is : Some (group_unit g (o + k)) ≡ Some u = ap (λ z. unit_after z k) (sym lies) ∙ e in
      let one : group_unit g (o + k) ≡ u = cc in
      subst IsNumbered one positive

  from_one : (m : ℕ) (t : SymbolTree) → symbol_at ss m ≡ Some t → 0 < m
  from_one m t e = go (nat_eq m 0) refl e
    where
      go : (b : Bool) → nat_eq m 0 ≡ b → (if b then None else slice_get ss (m - 1)) ≡ Some t → 0 < m
      go true q h = cc
      go false q h = grind (arith, nat_tests)

  no_share : (m : ℕ) (t : SymbolTree) → symbol_at ss m ≡ Some t → nat_eq m n ≡ false → share ss t s ≡ true → ⊥
  no_share m t e differ h =
      let one = (sharing_is_of_units ss t s).0 h in
      ⊎_elim
      (λ q. (let low = from_one n s is_symbol in let lower = from_one m t e in true≢false (sym (eq-eqb m n (omega (arith, q, low, lower))) ∙ differ)))
      (λ c. chain t.name c)
      (sharing_has_a_chain p ss laid (n - 1) (m - 1) s t one.0 (numbered_unit one.0 one.2) here (numbered_place ss m t e) one.2 one.1)

  no_number : (m : ℕ) → numbers_share ss m n ≡ true → ⊥
  no_number m h =
      let r = and_parts (not (nat_eq m n)) (share_maybe ss (symbol_at ss m) (symbol_at ss n)) h in
      go (symbol_at ss m) refl (subst (λ x. share_maybe ss (symbol_at ss m) x ≡ true) is_symbol r.1) (not-true (nat_eq m n) r.0)
    where
      go : (x : Option SymbolTree) → symbol_at ss m ≡ x → share_maybe ss x (Some s) ≡ true → nat_eq m n ≡ false → ⊥
      go None e q differ = absurd (true≢false (sym q))
      go (Some t) e q differ = no_share m t e differ q

  no_block : (c : List ℕ) → lies_in ss n c ≡ true → ⊥
  no_block c h = go s.place lies (subst (λ x. is_symbol_in c x ≡ true) is_symbol h)
    where
      go : (q : Place) → q ≡ place.Local g o → is_in c q ≡ true → ⊥
      go (place.Local i j) e r = absurd (true≢false (sym r))
      go (place.Dummy i) e r = cc
      go (place.Block b j) e r = cc
      go (place.Constant c) e r = cc

  none : IsSole ss (variable.Own n)
  none (variable.Own m) h = no_number m h
  none (variable.Block c) h = no_block c h
  none (variable.Saved x y) h = absurd (true≢false (sym h))

-- ---- variables by their names

record LocalPlace (q : Place) : Type 0 where
  group : ℕ
  offset : ℕ
  lies : q ≡ place.Local group offset

local_place : (q : Place) → is_local q ≡ true → LocalPlace q
local_place (place.Local g o) h = record { group = g; offset = o; lies = refl }
local_place (place.Dummy n) h = cc
local_place (place.Block b o) h = cc
local_place (place.Constant c) h = cc

pub alone : (p : ParsedTree) (ss : List SymbolTree) → symbols_of p ≡ Ok ss → ConstantsFit ss → (v : Variable) → may_copy p.module_read ss v ≡ true → IsSole ss v
alone p ss laid fit (variable.Block x) h = absurd (true≢false (sym h))
alone p ss laid fit (variable.Saved x y) h = absurd (true≢false (sym h))
alone p ss laid fit (variable.Own n) h = go (symbol_at ss n) refl h
  where
    go : (o : Option SymbolTree) → symbol_at ss n ≡ o → is_own_symbol p.module_read o ≡ true → IsSole ss (variable.Own n)
    go None e q = absurd (true≢false (sym q))
    go (Some s) e q =
        let r = and_parts (is_local s.place) (not s.saved && not (is_equivalenced p.module_read s.name)) q in
        let w = and_parts (not s.saved) (not (is_equivalenced p.module_read s.name)) r.1 in
        let l = local_place s.place r.0 in
        none p ss laid fit n s e l.group l.offset l.lies (not-true (is_equivalenced p.module_read s.name) w.1)

-- so it is of each module of a program that is read
pub copies_are_sole : CopiesAreSole
copies_are_sole ps sss g x i p ss m v h = alone p ss ((programs_are_linked ps sss g x).1 i p ss m) (integers_fit x.lines ps sss x.parsed x.tables i p ss m) v h
