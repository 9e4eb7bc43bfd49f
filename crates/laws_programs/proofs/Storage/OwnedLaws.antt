-- What is passed to a module is none of its own units, nor of those of what it reaches.
use Rattle.std.proofs.Common.{◌≡◌, ℕ, Bool, true, false, List, length, Some, refl, sym, ap, ◌∙◌, subst}
use Rattle.std.specs.Prelude.{slice_get}
use Rattle.std.proofs.lemmas.Slice.Eq.{bytes_eq-Decides}
use Rattle.f77_ast.specs.DeclTrees.{ParsedTree}
use Rattle.f77_ast.specs.Places.{Place as RunPlace, Places}
use Rattle.f77_ast.specs.Calls.{in_place}
use Rattle.f77_ast.specs.declared.symbol.Place.TheVariants as place
use Rattle.f77_ast.specs.Symbols.{SymbolTree}
use Rattle.f77_ast.specs.Shared.{symbol_at}
use Rattle.call_graph.specs.declared.graph.Graph.{Graph}
use Rattle.f77_meaning.specs.Areas.{block, group, own, unit_at}
use Rattle.f77_meaning.specs.Modules.{known_of, fixed, dummies_from}
use Rattle.f77_meaning.specs.Laws.{area_of}
use Rattle.f77_meaning.proofs.ModuleLaws.{names_meet}
use Rattle.laws_programs.specs.Storage.Programs.{IsLinked, IsModule, known}
use Rattle.laws_programs.specs.Storage.CellLaws.{units, IsOfLocal}
use Rattle.laws_programs.proofs.Storage.ModuleLaws.{declared, area_known}
use Rattle.laws_programs.proofs.Storage.OwnUnitLaws.{own_units_are_no_names, own_units_differ}
use Rattle.laws_programs.proofs.Storage.LocalLaws.{locals_stay_inside}
use Rattle.laws_programs.specs.Storage.Below.{leads_to, HasCall}
use Rattle.laws_programs.specs.Storage.Activations.{Entered}
use Rattle.laws_programs.specs.Storage.Owned.{IsOwn, of_local, of_expression, IsOwnBelow, DummiesKeepOff, OwnOfCalled, DummiesOffLocals, VariablesKeepOff, ExpressionsKeepOff}
use Rattle.laws_programs.proofs.Storage.BelowLaws.{at_once, never_back, lead_on}
use Rattle.laws_programs.proofs.Storage.LyingLaws.{variable_of, Lying, lying_dummy, lying_local, lying_common, lying}

pub own_of_called : OwnOfCalled
own_of_called ps sss g l i p ss m x u c o = record { at = o.at; parsed = o.parsed; table = o.table; is_module = o.is_module; reached = lead_on ps sss g l i p ss m x o.parsed.module_read.name c o.reached; is_own = o.is_own }

-- a module reaches itself
itself : (ps : List ParsedTree) (sss : List (List SymbolTree)) (g : Graph) (x : List ℕ) → leads_to ps sss g x x
itself ps sss g x = at_once g.edges (length (known_of ps sss)) x x ((bytes_eq-Decides x x).1 refl)

pub dummies_off_locals : DummiesOffLocals
dummies_off_locals ps sss g i p ss m at off v u d h n k s e f = go (in_place (fixed (units ps sss g) (known p ss) n) u) refl
  where
    go : (b : Bool) → in_place (fixed (units ps sss g) (known p ss) n) u ≡ b → b ≡ false
    go true q =
        let mine : IsOfLocal ps sss g p ss u = record { number = n; symbol = s; is_symbol = e; storage = k; lies = f; has_unit = q } in
        absurd (off v u d h (record { at = i; parsed = p; table = ss; is_module = m; reached = itself ps sss g p.module_read.name; is_own = of_local mine }))
    go false q = refl

module _ (ps : List ParsedTree) (sss : List (List SymbolTree)) (g : Graph) (l : IsLinked ps sss g) (i : ℕ) (p : ParsedTree) (ss : List SymbolTree) (m : IsModule ps sss i p ss) (x : List ℕ) (c : HasCall p ss x) where
  -- what is reached from what is called is another module
  other : (u : ℕ) (o : IsOwnBelow ps sss g x u) → i ≡ o.at → ⊥
  other u o e =
      let same : p ≡ o.parsed = (let z : Some p ≡ Some o.parsed = sym m.parsed ∙ ap (slice_get ps) e ∙ o.is_module.parsed in cc) in
      never_back ps sss g l i p ss m x c (subst (λ (q : ParsedTree). leads_to ps sss g x q.module_read.name) (sym same) o.reached)

  pub expression_off : (call spot : ℕ) → IsOwnBelow ps sss g x (unit_at (units ps sss g) (own p.module_read.name call spot) 0) → ⊥
  expression_off call spot o = go o.is_own
    where
      go : IsOwn ps sss g o.parsed o.table (unit_at (units ps sss g) (own p.module_read.name call spot) 0) → ⊥
      go (of_local z) =
          let no = own_units_are_no_names ps sss g l o.at i o.parsed p o.table ss o.is_module m z.number call spot in
          let w : true ≡ false = sym z.has_unit ∙ no in
          cc
      go (of_expression call' spot' e) = other (unit_at (units ps sss g) (own p.module_read.name call spot) 0) o (own_units_differ ps sss g l i o.at p o.parsed ss o.table m o.is_module call spot call' spot' e).0

  -- a local is of no other module
  local_off : (v h k u : ℕ) (s : SymbolTree) → symbol_at ss v ≡ Some s → s.place ≡ place.Local h k → in_place (fixed (units ps sss g) (known p ss) v) u ≡ true → IsOwnBelow ps sss g x u → ⊥
  local_off v h k u s e f has o = go o.is_own
    where
      go : IsOwn ps sss g o.parsed o.table u → ⊥
      go (of_local z) =
          let no = locals_stay_inside ps sss g l i o.at p o.parsed ss o.table m o.is_module (other u o) v z.number h u s e (ap (area_of p.module_read.name) f) has in
          let w : true ≡ false = sym z.has_unit ∙ no in
          cc
      go (of_expression call spot q) =
          let no = own_units_are_no_names ps sss g l i o.at p o.parsed ss o.table m o.is_module v call spot in
          let w : true ≡ false = sym has ∙ ap (in_place (fixed (units ps sss g) (known p ss) v)) q ∙ no in
          cc

  -- a variable in COMMON is no local
  common_off : (v u : ℕ) (s : SymbolTree) (b : List ℕ) (k : ℕ) → symbol_at ss v ≡ Some s → s.place ≡ place.Block b k → in_place (fixed (units ps sss g) (known p ss) v) u ≡ true → IsOwnBelow ps sss g x u → ⊥
  common_off v u s b k e f has o = go o.is_own
    where
      go : IsOwn ps sss g o.parsed o.table u → ⊥
      go (of_local z) =
          let area = ap (area_of p.module_read.name) f in
          let same : block b ≡ group o.parsed.module_read.name z.storage = names_meet (known_of ps sss) g (known p ss) (known o.parsed o.table) v z.number s z.symbol (block b) (group o.parsed.module_read.name z.storage) u (declared ps sss i p ss m v s e) (declared ps sss o.at o.parsed o.table o.is_module z.number z.symbol z.is_symbol) area z.lies
          (area_known ps sss g l i p ss m v s (block b) e area) (area_known ps sss g l o.at o.parsed o.table o.is_module z.number z.symbol (group o.parsed.module_read.name z.storage) z.is_symbol z.lies) has z.has_unit in
          cc
      go (of_expression call spot q) =
          let no = own_units_are_no_names ps sss g l i o.at p o.parsed ss o.table m o.is_module v call spot in
          let w : true ≡ false = sym has ∙ ap (in_place (fixed (units ps sss g) (known p ss) v)) q ∙ no in
          cc

  pub variable_off : (qs : List RunPlace) (at : Places) → Entered (dummies_from 1 ss) qs (fixed (units ps sss g) (known p ss)) at → DummiesKeepOff ps sss g p ss at → (v u : ℕ) → Lying ss v → in_place (at v) u ≡ true → IsOwnBelow ps sss g x u → ⊥
  variable_off qs at en off v u (lying_dummy d) h o = off v u d h (own_of_called ps sss g l i p ss m x u c o)
  variable_off qs at en off v u (lying_local s k j e f n) h o = local_off v k j u s e f (ap (λ q. in_place q u) (sym (en.others v n)) ∙ h) o
  variable_off qs at en off v u (lying_common s b k e f n) h o = common_off v u s b k e f (ap (λ q. in_place q u) (sym (en.others v n)) ∙ h) o

pub variables_keep_off : VariablesKeepOff
variables_keep_off ps sss g l i p ss m qs at en off x c y v u e h o = variable_off ps sss g l i p ss m x c qs at en off v u (lying ss v (variable_of ss y v e)) h o

pub expressions_keep_off : ExpressionsKeepOff
expressions_keep_off ps sss g l i p ss m x c call spot o = expression_off ps sss g l i p ss m x c call spot o
