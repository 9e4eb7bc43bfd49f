-- Of a unit of a local that is not saved, or of an expression, each module is told: it is the owner's, or none of the module's.
use Rattle.std.proofs.Common.{◌≡◌, ◌⊎◌, inl, inr, ⊎_elim, ℕ, Bool, true, false, List, [], ◌∷◌, map, Some, refl, sym, ap, ◌∙◌, subst, true≢false, nat_eq}
use Rattle.std.specs.Prelude.{slice_get, bytes_eq}
use Rattle.std.specs.List.{list_any}
use Rattle.std.proofs.lemmas.Slice.Eq.{bytes_eq-Decides}
use Rattle.f77_ast.specs.DeclTrees.{ParsedTree}
use Rattle.f77_ast.specs.Calls.{in_place}
use Rattle.f77_ast.specs.Programs.{Routine}
use Rattle.f77_ast.specs.Symbols.{SymbolTree}
use Rattle.call_graph.specs.declared.graph.Graph.{Graph}
use Rattle.f77_meaning.specs.Areas.{group, own, unit_at}
use Rattle.f77_meaning.specs.Modules.{Known, known_of, fixed}
use Rattle.f77_meaning.specs.Linked.{routine, subroutines, main_of}
use Rattle.f77_meaning.specs.Laws.{area_of}
use Rattle.laws_programs.specs.Programs.{IsProgram}
use Rattle.laws_programs.specs.Storage.CellLaws.{units}
use Rattle.laws_programs.specs.Storage.Programs.{IsModule, known}
use Rattle.laws_programs.proofs.Storage.OwnUnitLaws.{own_units_are_no_names, own_units_differ}
use Rattle.call_graph.specs.CallsIn.{Each}
use Rattle.laws_analyses.proofs.MainLaws.{MainOf, main_from}
use Rattle.laws_analyses.proofs.Modules.{IsIn, subs, subs_in, subs_are}
use Rattle.laws_analyses.proofs.UnitLaws.{module_at}
use Rattle.laws_marks.specs.Inactive.{IsOfExpression, IsOfModule}
use Rattle.laws_marks.proofs.Apart.{FixedOff, linked, OwnOf, own_off, LostOf, lost_of, lost_in, lost_off, same_group, Owned, of_local, of_expression, owned, OwnerOf}
use Rattle.laws_programs.proofs.Effects.Once.{main_of_linked as some_main}

-- what a module has to do with a unit whose owner has the name
pub record Told (u : ℕ) (name : List ℕ) (r : Routine) : Type 0 where
  -- of another module it is none of the variables
  pub off : bytes_eq name r.name ≡ false → FixedOff u r
  -- whose it is has the name
  pub mine : IsOfModule r u → bytes_eq name r.name ≡ true
  -- it is of no variable, or of no expression
  pub kind : FixedOff u r ⊎ (IsOfExpression r u → ⊥)

abbrev pub AllTold : ℕ → List ℕ → List Routine → Type 0
AllTold u name [] = Unit {0}
AllTold u name (r ∷ rs) = Told u name r × AllTold u name rs

module _ (ps : List ParsedTree) (sss : List (List SymbolTree)) (g : Graph) (x : IsProgram ps sss g) (u : ℕ) where
  -- two expressions whose unit it is are of one module
  own_same : (a b : OwnOf ps sss g x u) → a.parsed.module_read.name ≡ b.parsed.module_read.name
  own_same a b =
      let at = (own_units_differ ps sss g (linked ps sss g x) a.at b.at a.parsed b.parsed a.table b.table a.is_module b.is_module a.call a.spot b.call b.spot (a.is_unit ∙ sym b.is_unit)).0 in
      let parsed : Some a.parsed ≡ Some b.parsed = sym a.is_module.parsed ∙ ap (slice_get ps) at ∙ b.is_module.parsed in
      let same : a.parsed ≡ b.parsed = cc in
      ap (λ (p : ParsedTree). p.module_read.name) same

  -- so are two locals
  lost_same : (a b : LostOf ps sss g x u) → a.parsed.module_read.name ≡ b.parsed.module_read.name
  lost_same a b =
      let e = same_group ps sss g x u a b.at b.parsed b.table b.is_module b.number b.symbol (group b.parsed.module_read.name b.storage) b.is_symbol (ap (area_of b.parsed.module_read.name) b.lies) b.has_unit in
      cc

  -- and it is not of both
  not_both : LostOf ps sss g x u → OwnOf ps sss g x u → ⊥
  not_both a b =
      true≢false
      (sym a.has_unit ∙ ap (in_place (fixed (units ps sss g) (known a.parsed a.table) a.number)) (sym b.is_unit) ∙ own_units_are_no_names ps sss g (linked ps sss g x) a.at b.at a.parsed b.parsed a.table b.table a.is_module b.is_module a.number b.call b.spot)

  module _ (i : ℕ) (p : ParsedTree) (ss : List SymbolTree) (m : IsModule ps sss i p ss) where
    abbrev r : Routine
    r = routine (known_of ps sss) g (known p ss)

    own_in : IsOfExpression (routine (known_of ps sss) g (known p ss)) u → OwnOf ps sss g x u
    own_in e = record { at = i; parsed = p; table = ss; is_module = m; call = e.call; spot = e.place; is_unit = e.is_unit }

    named_so : (y : List ℕ) → y ≡ p.module_read.name → bytes_eq y p.module_read.name ≡ true
    named_so y e = (bytes_eq-Decides y p.module_read.name).1 e

    told_own : (o : OwnOf ps sss g x u) → Told u o.parsed.module_read.name r
    unfolding own_in
    told_own o =
        let f = own_off ps sss g x u o i p ss m in
        record {
          off = λ e. f;
          mine = λ h. ⊎_elim (λ a. absurd (not_both (lost_of ps sss g x i p ss m u a) o)) (λ e. named_so o.parsed.module_read.name (own_same o (own_in e))) h;
          kind = inl f;
        }

    lost_here : (o : LostOf ps sss g x u) (h : list_any (λ v. nat_eq v u) r.locals ≡ true) → o.parsed.module_read.name ≡ p.module_read.name
    lost_here o h = lost_same o (lost_of ps sss g x i p ss m u h) ∙ ap (λ (q : ParsedTree). q.module_read.name) (lost_in ps sss g x i p ss m u h)

    told_lost : (o : LostOf ps sss g x u) → Told u o.parsed.module_read.name r
    told_lost o = record {
      off = λ e. lost_off ps sss g x u o i p ss m (λ q. true≢false (sym (named_so o.parsed.module_read.name (sym q)) ∙ e));
      mine = λ h. ⊎_elim (λ a. named_so o.parsed.module_read.name (lost_here o a)) (λ e. absurd (not_both o (own_in e))) h;
      kind = inr (λ e. not_both o (own_in e));
    }

  pub told : (o : OwnerOf ps sss g x u) → (i : ℕ) (p : ParsedTree) (ss : List SymbolTree) → IsModule ps sss i p ss → Told u o.parsed.module_read.name (routine (known_of ps sss) g (known p ss))
  unfolding own_in
  told o i p ss m = go o.is_owned
    where
      go : Owned ps sss g x (known o.parsed o.table) u → Told u o.parsed.module_read.name (routine (known_of ps sss) g (known p ss))
      go (of_expression e) = told_own i p ss m (own_in o.at o.parsed o.table o.is_module e)
      go (of_local h) =
          subst (λ (q : ParsedTree). Told u q.module_read.name (routine (known_of ps sss) g (known p ss))) (lost_in ps sss g x o.at o.parsed o.table o.is_module u h)
          (told_lost i p ss m (lost_of ps sss g x o.at o.parsed o.table o.is_module u h))

  told_each : (o : OwnerOf ps sss g x u) → (xs : List Known) → Each (IsIn (known_of ps sss)) xs → AllTold u o.parsed.module_read.name (map (routine (known_of ps sss) g) xs)
  told_each o [] h = tt
  told_each o (k ∷ xs) h =
      let m = module_at ps sss h.0.at k h.0.is_module in
      (subst (λ (z : Known). Told u o.parsed.module_read.name (routine (known_of ps sss) g z)) m.same (told o h.0.at m.parsed m.table m.is_module), told_each o xs h.1)

  -- the modules of the program are told
  pub all_told : (o : OwnerOf ps sss g x u) → AllTold u o.parsed.module_read.name (routine (known_of ps sss) g (main_of (known_of ps sss)) ∷ subroutines (known_of ps sss) g g.order)
  all_told o =
      let r = main_from ps sss x.tables (some_main ps sss g x.links) in (
        subst (λ (z : Known). Told u o.parsed.module_read.name (routine (known_of ps sss) g z)) (sym r.is_main) (told o r.at r.parsed r.table r.is_module),
        subst (AllTold u o.parsed.module_read.name) (subs_are (known_of ps sss) g g.order) (told_each o (subs (known_of ps sss) g.order) (subs_in (known_of ps sss) g.order)),
      )
