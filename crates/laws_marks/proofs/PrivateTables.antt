-- What the tables of a program that is read give of its modules.
use Rattle.std.proofs.Common.{◌≡◌, ℕ, suc, ◌<◌, Bool, true, false, List, Option, Some, None, refl, sym, ap, ◌∙◌, true≢false}
use Rattle.std.specs.Prelude.{not}
use Rattle.affine_systems.specs.declared.row.System.{System}
use Rattle.f77_ast.specs.DeclTrees.{ParsedTree}
use Rattle.f77_ast.specs.Calls.{in_place, nowhere}
use Rattle.f77_ast.specs.declared.symbol.Place.{Place}
use Rattle.f77_ast.specs.declared.symbol.Place.TheVariants as place
use Rattle.f77_ast.specs.Symbols.{SymbolTree}
use Rattle.f77_ast.specs.Shared.{symbol_at}
use Rattle.call_graph.specs.declared.graph.Graph.{Graph}
use Rattle.f77_meaning.specs.Modules.{known_of, fixed, fixed_place, fixed_maybe, dummies_from}
use Rattle.f77_meaning.specs.Linked.{numbering}
use Rattle.f77_meaning.specs.Laws.{area_of}
use Rattle.preconditions.specs.transformers.Given.{Callees}
use Rattle.in_out_regions.specs.array_regions.References.{is_constant}
use Rattle.laws_programs.proofs.SymbolTables.DummyLaws.{dummies_come_first}
use Rattle.laws_programs.specs.Programs.{IsProgram}
use Rattle.laws_programs.specs.Storage.Programs.{IsLinked, IsModule, known}
use Rattle.laws_programs.specs.Storage.Calls.{AreLaidOut}
use Rattle.laws_programs.specs.Storage.DataLaws.{AllConstantsFit}
use Rattle.laws_programs.proofs.Storage.PlaceLaws.{missing_has_none, unit_of_name}
use Rattle.laws_analyses.specs.Calls.Parts.{NoDummy}
use Rattle.laws_analyses.proofs.DummyLaws.{told}
use Rattle.laws_analyses.proofs.IntegerLaws.{integers_fit}
use Rattle.laws_analyses.specs.Parts.{part_of}
use Rattle.laws_analyses.specs.Results.{callees_of_all, analysed_entry}
use Rattle.laws_lines.proofs.TableNames.{names_are_distinct}
use Rattle.laws_analyses.specs.Regions.Settings.{is_stored}
use Rattle.laws_analyses.specs.Regions.Programs.{FixedFits}
use Rattle.laws_analyses.proofs.Regions.Entered.{module_fits}
use Rattle.laws_marks.specs.ConflictAccepted.{CopiesAreSole}
use Rattle.laws_marks.specs.Units.{IsPassing}
use Rattle.laws_marks.proofs.Elements.{in_place_element}
use Rattle.laws_marks.proofs.Own.{TablesTell}
use Rattle.call_graph.specs.Visible.{is_local}

module _ (ps : List ParsedTree) (sss : List (List SymbolTree)) (g : Graph) (x : IsProgram ps sss g) (copies : CopiesAreSole) where
  fit : AllConstantsFit ps sss
  fit = integers_fit x.lines ps sss x.parsed x.tables

  module _ (l : IsLinked ps sss g) (laid : AreLaidOut ps sss) (i : ℕ) (p : ParsedTree) (ss : List SymbolTree) (m : IsModule ps sss i p ss) where
    abbrev cs : Callees
    cs = callees_of_all (known_of ps sss) g

    abbrev entry : System
    entry = analysed_entry (known_of ps sss) g (known p ss)

    -- the symbol of a dummy
    dummy_place : (n : ℕ) (s : SymbolTree) → symbol_at ss n ≡ Some s → ((d : ℕ) → s.place ≡ place.Dummy d → ⊥) → NoDummy (dummies_from 1 ss) n
    dummy_place n s e other d =
        let t = told ss _ (dummies_come_first p ss (laid i p ss m)) d.at d.dummy d.is_dummy in
        let same : Some t.symbol ≡ Some s = sym t.is_symbol ∙ (ap (symbol_at ss) d.symbol ∙ e) in
        let one : t.symbol ≡ s = cc in
        other (suc d.at) (ap (λ (z : SymbolTree). z.place) (sym one) ∙ t.lies)

    none_there : (n : ℕ) → symbol_at ss n ≡ None → NoDummy (dummies_from 1 ss) n
    none_there n e d = (let t = told ss _ (dummies_come_first p ss (laid i p ss m)) d.at d.dummy d.is_dummy in none_some t.symbol (sym e ∙ (ap (symbol_at ss) (sym d.symbol) ∙ t.is_symbol)))
      where
        none_some : (s : SymbolTree) → None ≡ Some s → ⊥
        none_some s e = cc

    constant_no : (q : Place) (d : ℕ) → is_constant q ≡ true → q ≡ place.Dummy d → ⊥
    constant_no (place.Local h o) d c e = cc
    constant_no (place.Dummy k) d c e = cc
    constant_no (place.Block b o) d c e = cc
    constant_no (place.Constant v) d c e = cc

    stored_local : (q : Place) → is_local q ≡ true → is_constant q ≡ false
    stored_local (place.Local h o) c = refl
    stored_local (place.Dummy k) c = cc
    stored_local (place.Block b o) c = cc
    stored_local (place.Constant v) c = cc

    local_no : (q : Place) (d : ℕ) → is_local q ≡ true → q ≡ place.Dummy d → ⊥
    local_no (place.Local h o) d c e = cc
    local_no (place.Dummy k) d c e = cc
    local_no (place.Block b o) d c e = cc
    local_no (place.Constant v) d c e = cc

    unstored : (s : SymbolTree) → not (is_constant s.place) ≡ false → is_constant s.place ≡ true
    unstored s h = go (is_constant s.place) h
      where
        go : (b : Bool) → not b ≡ false → b ≡ true
        go true h = refl
        go false h = cc

    no_dummy : (n : ℕ) (o : Option SymbolTree) → symbol_at ss n ≡ o → is_stored o ≡ false → NoDummy (dummies_from 1 ss) n
    no_dummy n None e h = none_there n e
    no_dummy n (Some s) e h = dummy_place n s e (λ d q. constant_no s.place d (unstored s h) q)

    no_place : (v : ℕ) (o : Option SymbolTree) → is_stored o ≡ false → fixed_maybe (numbering (known_of ps sss) g) p.module_read.name ss o ≡ nowhere
    no_place v None h = refl
    no_place v (Some s) h = go s.place (unstored s h)
      where
        go : (q : Place) → is_constant q ≡ true → fixed_place (numbering (known_of ps sss) g) p.module_read.name ss s q ≡ nowhere
        go (place.Local h o) c = cc
        go (place.Dummy k) c = refl
        go (place.Block b o) c = cc
        go (place.Constant v) c = refl

    positive : (n : ℕ) → IsPassing ss n → (u : ℕ) → in_place (fixed (numbering (known_of ps sss) g) (known p ss) n) u ≡ true → 0 < u
    positive n pass u own = go pass.symbol.place refl pass.local
      where
        go : (q : Place) → pass.symbol.place ≡ q → is_local q ≡ true → 0 < u
        go (place.Local h o) e c = unit_of_name ps sss g l i p ss m n u pass.symbol _ pass.is_symbol (ap (area_of p.module_read.name) e) own
        go (place.Dummy k) e c = cc
        go (place.Block b o) e c = cc
        go (place.Constant v) e c = cc

    -- it takes as many units as its bounds say
    whole : (n : ℕ) (pass : IsPassing ss n) → FixedFits (part_of (known_of ps sss) g cs entry (known p ss)) pass.symbol n
    whole n pass = module_fits ps sss g i p ss m (laid i p ss m) (fit i p ss m) cs entry n pass.symbol pass.is_symbol (stored_local pass.symbol.place pass.local) (dummy_place n pass.symbol pass.is_symbol (λ d q. local_no pass.symbol.place d pass.local q))

    pub tables_tell : TablesTell (known_of ps sss) g (known p ss)
    tables_tell = record {
      sole = λ v may. copies ps sss g x i p ss m v may;
      no_dummy = λ n h. no_dummy n (symbol_at ss n) refl h;
      local = λ n pass. dummy_place n pass.symbol pass.is_symbol (λ d q. local_no pass.symbol.place d pass.local q);
      distinct = names_are_distinct p ss (laid i p ss m);
      elements = λ n pass u h. (let w = whole n pass in in_place_element (part_of (known_of ps sss) g cs entry (known p ss)).scope.scalars.value pass.symbol.bounds (fixed (numbering (known_of ps sss) g) (known p ss) n) u w.constants w.sizes h);
      missing = λ n v pass h u own other. true≢false (sym other ∙ missing_has_none (numbering (known_of ps sss) g) (known p ss) v u (no_place v (symbol_at ss v) h) (positive n pass u own));
    }
