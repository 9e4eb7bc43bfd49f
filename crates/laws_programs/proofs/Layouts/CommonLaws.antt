-- COMMON: in the table of a module that is not refused the members of each block lie in the order of the text.
use Rattle.std.proofs.Common.{◌≡◌, ℕ, zero, suc, ◌+◌, ◌-◌, Bool, true, false, pos, List, [], ◌∷◌, map, Option, Some, None, inl, inr, refl, sym, ap, ◌∙◌, subst, arith}
use Rattle.std.specs.Prelude.{if◌then◌else◌, bytes_eq, is_some, ◌||◌, slice_get, unwrap_or}
use Rattle.std.proofs.lemmas.Bool.{or_parts}
use Rattle.std.proofs.lemmas.Slice.Eq.{bytes_eq-Decides}
use Rattle.f77_ast.specs.DeclTrees.{ParsedTree}
use Rattle.f77_ast.specs.declared.constant.Constant.{Constant}
use Rattle.f77_ast.specs.declared.symbol.Place.TheVariants as place
use Rattle.f77_ast.specs.Symbols.{SymbolTree, number_from}
use Rattle.f77_ast.specs.Units.{units_in}
use Rattle.fx_lists.specs.declared.code.Code.TheVariants.{RealName, CommonTwice, BadDimension}
use Rattle.fx_lists.specs.declared.refusal.Refusal.{Refusal}
use Rattle.f77_names.specs.declared.kinds.Kind.{Kind}
use Rattle.fx_lists.specs.Refusals.{refuse_if}
use Rattle.f77_names.specs.Kinds.{kinds_of}
use Rattle.f77_names.specs.Functions.{arrays_named}
use Rattle.f77_names.specs.Entries.{EntryTree, find, place_in, of_entry, changed, with_value}
use Rattle.f77_names.specs.Declaring.{Told, decls_told}
use Rattle.f77_names.specs.Tables.{NameTable, entry_kind, is_real, title_told, told_of, in_common_too, check_entry, check_entries, table_of, check_names}
use Rattle.f77_checks.specs.Dimensions.{is_bad_shape, check_bounds, check_shape, check_shapes}
use Rattle.storage_data.specs.declared.offset_node.Home.TheVariants.{Block}
use Rattle.storage_data.specs.Units.{place_of, units_by, units_of_entry, units_of}
use Rattle.storage_layout.specs.Blocks.{block_number}
use Rattle.storage_layout.specs.Table.{Layout, place_in as offset_node_place, unless_dummy, unless_value, symbol_of, symbols_from}
use Rattle.storage_layout.specs.Symbols.{valued, checked}
use Rattle.laws_programs.specs.SymbolTables.Shapes.{symbol_named}
use Rattle.laws_programs.proofs.SymbolTables.StatementRefusals.{stmts_back}
use Rattle.laws_programs.proofs.SymbolTables.NameRefusals.{entries_back, shapes_back}
use Rattle.laws_programs.proofs.SymbolTables.KeptNames.{stmts_keep}
use Rattle.laws_programs.proofs.SymbolTables.FoundNames.{AllFound, find_changed}
use Rattle.laws_programs.proofs.SymbolTables.Answers.{Answered, lines_in, names_in, found_in, laid_in, layout_in, answered_by, found_none, values_none, names_none}
use Rattle.laws_programs.specs.Storage.DataLaws.{ConstantsFit}
use Rattle.laws_programs.proofs.Storage.ParameterLaws.{Right, no_value, a_value, names_right}
use Rattle.storage_layout.specs.Statements.{members, common_names}
use Rattle.laws_programs.specs.Layout.Layout.{LieInARow}
use Rattle.laws_programs.specs.Layout.Laws.{CommonFollowsTheText}
use Rattle.laws_programs.proofs.Layouts.CommonNames.{InCommon, seen_shared, said_shared, changed_shared}
use Rattle.storage_layout.proofs.StayLaws.{shared_stays}
use Rattle.storage_layout.specs.Laws.{AreDistinct, InARow, HasRow, no_block, a_row}
use Rattle.storage_layout.proofs.RowLaws.{members_lie_in_a_row}
use Rattle.laws_programs.proofs.Layouts.MemberLaws.{decls_fresh, AllInCommon, all_keep, decls_common}
use Rattle.laws_programs.proofs.Layouts.ValueKeeps.{values_keep}
use Rattle.laws_programs.proofs.Layouts.SizeLaws.{ShapeFits, entry_known}
use Rattle.laws_programs.proofs.Storage.UnitLaws.{units_are}
use Rattle.fx_lists.proofs.Options.{not_found as no_some}
use Rattle.fx_lists.proofs.Refused.{none_refused}
use Rattle.f77_ast.proofs.NumberedNames.{number_from-least}

-- ---- entries

-- a name in COMMON is no dummy and no PARAMETER
abbrev Plain : EntryTree → Type 0
Plain e = is_some e.common ≡ true → (e.dummy ≡ None) × (e.parameter ≡ false)

common_plain : (e : EntryTree) (c : Option ℕ) (o : Option Refusal) → in_common_too e c o ≡ None → is_some c ≡ true → (e.dummy ≡ None) × (e.parameter ≡ false)
common_plain e None o q h = cc
common_plain e (Some line) o q h =
    let parts = or_parts (is_some e.dummy) e.parameter (none_refused (is_some e.dummy || e.parameter) line CommonTwice o q).0 in
    (no_some e.dummy parts.0, parts.1)

judged_plain : (ks : List Kind) (es : List EntryTree) (o : Option Refusal) → check_entries ks es o ≡ None → AllFound Plain es
unfolding find
judged_plain ks [] o q y e h = cc
judged_plain ks (x ∷ es) o q y e h = go (bytes_eq y x.name) h (judged_plain ks es (check_entry ks x o) q y e)
  where
    go : (b : Bool) → (if b then Some x else find y es) ≡ Some e → (find y es ≡ Some e → Plain e) → Plain e
    go true k ih = let same : x ≡ e = cc in subst Plain same (λ c. common_plain x x.common (refuse_if (is_real (entry_kind ks x)) x.line RealName o) (entries_back ks es (check_entry ks x o) q) c)
    go false k ih = ih k

shape_fits : (t : NameTable) (x : EntryTree) (o : Option Refusal) → check_shape t (is_some x.dummy) x.shape o ≡ None → ShapeFits t x
shape_fits t x o q s w = (none_refused (is_bad_shape t (is_some x.dummy) s.bounds) s.line BadDimension (check_bounds t s.bounds s.line o) (ap (λ z. check_shape t (is_some x.dummy) z o) (sym w) ∙ q)).0

shapes_found : (t : NameTable) (es : List EntryTree) (o : Option Refusal) → check_shapes t es o ≡ None → AllFound (ShapeFits t) es
unfolding find
shapes_found t [] o q y e h = cc
shapes_found t (x ∷ es) o q y e h = go (bytes_eq y x.name) h (shapes_found t es (check_shape t (is_some x.dummy) x.shape o) q y e)
  where
    go : (b : Bool) → (if b then Some x else find y es) ≡ Some e → (find y es ≡ Some e → ShapeFits t e) → ShapeFits t e
    go true k ih = let same : x ≡ e = cc in subst (ShapeFits t) same (shape_fits t x o (shapes_back t es (check_shape t (is_some x.dummy) x.shape o) q))
    go false k ih = ih k

-- by place
shapes_placed : (t : NameTable) (es : List EntryTree) (o : Option Refusal) → check_shapes t es o ≡ None → (n : ℕ) (e : EntryTree) → slice_get es n ≡ Some e → ShapeFits t e
shapes_placed t [] o q zero e h = cc
shapes_placed t [] o q (suc n) e h = cc
shapes_placed t (x ∷ es) o q zero e h = let same : x ≡ e = cc in subst (ShapeFits t) same (shape_fits t x o (shapes_back t es (check_shape t (is_some x.dummy) x.shape o) q))
shapes_placed t (x ∷ es) o q (suc n) e h = shapes_placed t es (check_shape t (is_some x.dummy) x.shape o) q n e h

valued_found : (G : EntryTree → Type 0) → ((c : Constant) (e : EntryTree) → G e → G (with_value c e)) → (x : List ℕ) (c : Constant) (es : List EntryTree) → AllFound G es → AllFound G (changed x (with_value c) es)
valued_found G keeps x c es all y d k =
    let r = find_changed x (with_value c) (λ e. refl) es y d k in
    elim r.is [ inl a ↦ subst G a (all y r.entry r.found) | inr b ↦ subst G b.0 (keeps c r.entry (all y r.entry r.found)) ]

pub without_value : (ks : List Kind) (e : EntryTree) → Right ks e → e.parameter ≡ false → e.value ≡ None
without_value ks e (no_value q) f = q
without_value ks e (a_value c q t o) f = let z : true ≡ false = sym t ∙ f in cc

-- ---- places

-- the entry of a name in COMMON
pub record Shared (x : List ℕ) (es : List EntryTree) : Type 0 where
  pub entry : EntryTree
  pub found : find x es ≡ Some entry
  pub is : is_some entry.common ≡ true

shared_entry : (x : List ℕ) (es : List EntryTree) → InCommon x es → Shared x es
shared_entry x es h = go (find x es) refl h
  where
    go : (o : Option EntryTree) → find x es ≡ o → of_entry false (λ e. is_some e.common) o ≡ true → Shared x es
    go None q k = cc
    go (Some e) q k = record { entry = e; found = q; is = k }

number_found : (n : ℕ) (es : List EntryTree) (x : List ℕ) (e : EntryTree) → find x es ≡ Some e → (k : ℕ) × (number_from n (map (λ z. z.name) es) x ≡ Some k)
unfolding find
number_found n [] x e h = cc
number_found n (z ∷ es) x e h = go (bytes_eq x z.name) h (number_found (suc n) es x e)
  where
    go : (b : Bool) → (if b then Some z else find x es) ≡ Some e → (find x es ≡ Some e → (k : ℕ) × (number_from (suc n) (map (λ y. y.name) es) x ≡ Some k)) → (k : ℕ) × ((if b then Some n else number_from (suc n) (map (λ y. y.name) es) x) ≡ Some k)
    go true k ih = (n, refl)
    go false k ih = ih k

place_found : (t : NameTable) (x : List ℕ) → InCommon x t.entries → (k : ℕ) × (place_of t x ≡ Some k)
unfolding place_in
place_found t x h = let e = shared_entry x t.entries h in number_found 0 t.entries x e.entry e.found

symbol_found : (l : Layout) (n m : ℕ) (es : List EntryTree) (x : List ℕ) (e : EntryTree) (k : ℕ) → m ≡ n → find x es ≡ Some e → number_from m (map (λ z. z.name) es) x ≡ Some k → symbol_named (symbols_from l n es) x ≡ Some (symbol_of l k e)
unfolding find
symbol_found l n m [] x e k q f h = cc
symbol_found l n m (z ∷ es) x e k q f h = go (bytes_eq x z.name) f h (λ a b. symbol_found l (n + 1) (suc m) es x e k (omega (arith, q)) a b)
  where
    go : (b : Bool) → (if b then Some z else find x es) ≡ Some e → (if b then Some m else number_from (suc m) (map (λ y. y.name) es) x) ≡ Some k →
        (find x es ≡ Some e → number_from (suc m) (map (λ y. y.name) es) x ≡ Some k → symbol_named (symbols_from l (n + 1) es) x ≡ Some (symbol_of l k e)) →
        (if b then Some (symbol_of l n z) else symbol_named (symbols_from l (n + 1) es) x) ≡ Some (symbol_of l k e)
    go true a c ih = let same : z ≡ e = cc in let at : m ≡ k = cc in ap (λ i. Some (symbol_of l i z)) (sym q ∙ at) ∙ ap (λ d. Some (symbol_of l k d)) same
    go false a c ih = ih a c

pub placed_symbol : (l : Layout) (x : List ℕ) (e : EntryTree) (k : ℕ) → find x l.table.entries ≡ Some e → place_of l.table x ≡ Some k → symbol_named (symbols_from l 0 l.table.entries) x ≡ Some (symbol_of l k e)
unfolding place_in
placed_symbol l x e k f h = symbol_found l 0 0 l.table.entries x e k refl f h

pub number_gets : (n k : ℕ) (ys : List (List ℕ)) (x : List ℕ) → number_from n ys x ≡ Some k → slice_get ys (k - n) ≡ Some x
number_gets n k [] x h = cc
number_gets n k (y ∷ ys) x h = go (bytes_eq x y) refl h (number_gets (suc n) k ys x)
  where
    go : (b : Bool) → bytes_eq x y ≡ b → (if b then Some n else number_from (suc n) ys x) ≡ Some k → (number_from (suc n) ys x ≡ Some k → slice_get ys (k - suc n) ≡ Some x) → slice_get (y ∷ ys) (k - n) ≡ Some x
    go true e q ih = let same : n ≡ k = cc in let none : k - n ≡ zero = omega (arith, same) in ap (slice_get (y ∷ ys)) none ∙ ap Some (sym ((bytes_eq-Decides x y).0 e))
    go false e q ih = let low = number_from-least (suc n) k ys x q in let less : k - n ≡ suc (k - suc n) = omega (arith, low) in ap (slice_get (y ∷ ys)) less ∙ ih q

pub block_named : (names : List (List ℕ)) (b : List ℕ) (n : ℕ) → block_number names b ≡ Some n → slice_get names n ≡ Some b
block_named names b n h = let same : n - 0 ≡ n = omega arith in ap (slice_get names) (sym same) ∙ number_gets 0 n names b h

-- ---- a module

abbrev pub told_in : ParsedTree → Told
told_in p = decls_told (arrays_named p.module_read.decls) (lines_in p) p.module_read.decls 0 (title_told (lines_in p) p.module_read)

told_quiet : (p : ParsedTree) → check_names (lines_in p) p.module_read ≡ None → (told_in p).found ≡ None
told_quiet p e =
    let t = told_of (arrays_named p.module_read.decls) (lines_in p) p.module_read in
    entries_back (kinds_of p.module_read.decls) t.entries t.found e

kept_common : (p : ParsedTree) (y : List ℕ) → InCommon y (told_in p).entries → InCommon y (names_in p).entries
unfolding valued
kept_common p y h =
    let at = lines_in p in
    let m = p.module_read in
    values_keep (InCommon y) (λ x c es k. changed_shared y x (with_value c) (λ e. refl) (λ e i. i) es k) at m.decls 0 (record { table = table_of at m; found = check_names at m })
    (stmts_keep (InCommon y) (seen_shared y) (said_shared y) (arrays_named m.decls) at m.body 0 (told_in p).entries h)

plain_names : (p : ParsedTree) → check_names (lines_in p) p.module_read ≡ None → AllFound Plain (names_in p).entries
unfolding valued
plain_names p e =
    let at = lines_in p in
    let m = p.module_read in
    let t = told_of (arrays_named m.decls) at m in
    values_keep (AllFound Plain) (valued_found Plain (λ c d g. g)) at m.decls 0 (record { table = table_of at m; found = check_names at m }) (judged_plain (kinds_of m.decls) t.entries t.found e)

pub shaped_names : (p : ParsedTree) → found_in p ≡ None → AllFound (ShapeFits (names_in p)) (names_in p).entries
unfolding checked
shaped_names p e =
    let v = valued (lines_in p) p.module_read in
    shapes_found v.table v.table.entries v.found (stmts_back v.table (lines_in p) p.module_read.body 0 (check_shapes v.table v.table.entries v.found) e)

pub shapes_at : (p : ParsedTree) → found_in p ≡ None → (n : ℕ) (e : EntryTree) → slice_get (names_in p).entries n ≡ Some e → ShapeFits (names_in p) e
unfolding checked
shapes_at p e =
    let v = valued (lines_in p) p.module_read in
    shapes_placed v.table v.table.entries v.found (stmts_back v.table (lines_in p) p.module_read.body 0 (check_shapes v.table v.table.entries v.found) e)

-- the names as they are told, before COMMON is looked at
abbrev first_told : ParsedTree → Told
first_told p = title_told (lines_in p) p.module_read

-- no member of COMMON is there twice
pub distinct_members : (p : ParsedTree) → check_names (lines_in p) p.module_read ≡ None → AreDistinct (names_in p) (common_names p.module_read.decls)
distinct_members p quiet =
    let m = p.module_read in
    let fresh = decls_fresh (names_in p) (arrays_named m.decls) (lines_in p) m.decls 0 (first_told p) (told_quiet p quiet) (λ y h. place_found (names_in p) y (kept_common p y h)) in
    fresh.distinct

module _ (p : ParsedTree) (ss : List SymbolTree) (a : Answered p ss) (fit : ConstantsFit ss) where
  quiet : check_names (lines_in p) p.module_read ≡ None
  quiet = names_none p (values_none p (found_none p ss a))

  -- the symbol of a member
  record Member (b : List ℕ) (from : ℕ) (x : List ℕ) : Type 0 where
    symbol : SymbolTree
    is_named : symbol_named ss x ≡ Some symbol
    lies : symbol.place ≡ place.Block b from
    units : units_in ss symbol ≡ units_of (names_in p) x

  member : (b : List ℕ) (n from : ℕ) (x : List ℕ) (k : ℕ) → slice_get (laid_in p).names n ≡ Some b → place_of (names_in p) x ≡ Some k → slice_get (laid_in p).offset_nodes k ≡ Some (record { home = Block n; offset = pos from }) → InCommon x (names_in p).entries → Member b from x
  member b n from x k name at offset_node common =
      let l = layout_in p in
      let e = shared_entry x (names_in p).entries common in
      let plain = plain_names p quiet x e.entry e.found e.is in
      let value = without_value (names_in p).kinds e.entry ((names_right p).right x e.entry e.found) plain.1 in
      let dims = entry_known (names_in p) e.entry plain.0 (shaped_names p (found_none p ss a) x e.entry e.found) in
      let after = shared_stays (names_in p) (lines_in p) p.module_read.decls (laid_in p).offset_nodes (found_in p) k (record { home = Block n; offset = pos from }) offset_node refl in
      record {
        symbol = symbol_of l k e.entry;
        is_named = ap (λ z. symbol_named z x) a.table ∙ placed_symbol l x e.entry k e.found at;
        lies =
            ap (λ v. unless_value v (unless_dummy e.entry.dummy (offset_node_place l (slice_get l.offset_nodes k)))) value
            ∙ ap (λ d. unless_dummy d (offset_node_place l (slice_get l.offset_nodes k))) plain.0
            ∙ ap (offset_node_place l) after
            ∙ ap (λ o. place.Block (unwrap_or o []) from) name;
        units = units_are p ss a fit k e.entry dims.0 dims.1 ∙ sym (ap (units_of_entry (names_in p)) e.found ∙ ap units_by dims.1);
      }

  in_a_row : (b : List ℕ) (n : ℕ) → slice_get (laid_in p).names n ≡ Some b → (from : ℕ) (xs : List (List ℕ)) (to : ℕ) → AllInCommon (names_in p).entries xs → InARow (names_in p) (laid_in p).offset_nodes n from xs to → LieInARow ss b from xs
  in_a_row b n name from [] to common h = tt
  in_a_row b n name from (x ∷ xs) to common h =
      let s = member b n from x h.0 name h.1 h.2 common.0 in
      (s.symbol, s.is_named, s.lies, subst (λ u. LieInARow ss b (from + u) xs) (sym s.units) (in_a_row b n name (from + units_of (names_in p) x) xs to common.1 h.3))

  block_lies : (b : List ℕ) → LieInARow ss b 0 (members b p.module_read.decls)
  block_lies b = go (members_lie_in_a_row (names_in p) p.module_read.decls (distinct_members p quiet) b)
    where
      common : AllInCommon (names_in p).entries (members b p.module_read.decls)
      common =
          let m = p.module_read in
          all_keep (told_in p).entries (names_in p).entries (members b m.decls) (λ y h. kept_common p y h) (decls_common (arrays_named m.decls) b (lines_in p) m.decls 0 (first_told p) (told_quiet p quiet))

      go : HasRow (names_in p) b (laid_in p) (members b p.module_read.decls) → LieInARow ss b 0 (members b p.module_read.decls)
      go (no_block none q) = subst (LieInARow ss b 0) (sym q) tt
      go (a_row n size is has row) = in_a_row b n (block_named (laid_in p).names b n is) 0 (members b p.module_read.decls) size common row

pub common_follows_the_text : CommonFollowsTheText
common_follows_the_text p ss e fit b = block_lies p ss (answered_by p ss e) fit b
