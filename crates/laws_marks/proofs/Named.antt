-- Where a DO has a directive, what has the units in the places of its names.
use Rattle.std.proofs.Common.{◌≡◌, ◌⊎◌, inl, inr, ⊎_elim, ℕ, ℤ, zero, suc, ◌||◌, nat_eq, Bool, true, false, List, [], ◌∷◌, Some, refl, sym, ap, ◌∙◌, subst, true≢false}
use Rattle.std.specs.Prelude.{unwrap_or}
use Rattle.std.proofs.lemmas.Bool.{eqb-true}
use Rattle.f77_ast.specs.Trees.{LoopTree}
use Rattle.f77_ast.specs.Trees as tree
use Rattle.f77_ast.specs.Places.{Meant, Constant, Variable, Function, Names, Place, Places}
use Rattle.f77_ast.specs.Calls.{Dummy, in_place}
use Rattle.f77_ast.specs.StatementNumbers.{HasNumbers}
use Rattle.f77_ast.specs.Symbols.{number_from}
use Rattle.f77_ast.specs.declared.variable.Variable.TheVariants.{Own}
use Rattle.affine_systems.specs.declared.row.System.{System}
use Rattle.call_graph.specs.declared.graph.Graph.{Graph}
use Rattle.f77_meaning.specs.Modules.{Known, names, fixed, dummies_from}
use Rattle.f77_meaning.specs.Linked.{numbering}
use Rattle.affine_forms.specs.Claims.{unit_in}
use Rattle.preconditions.specs.transformer_algebra.declared.transformer.Transformer.{Transformer}
use Rattle.preconditions.specs.transformer_algebra.Laws.{In, here, there}
use Rattle.preconditions.specs.call_translation.Scopes.{ScopeTree}
use Rattle.preconditions.specs.transformers.Lists.{transformer_at}
use Rattle.f77_ast.specs.declared.results.At.{At}
use Rattle.f77_ast.specs.declared.marks.Private.TheVariants.{Yes}
use Rattle.in_out_regions.specs.region_sets.declared.region.Region.{Region}
use Rattle.in_out_regions.specs.region_sets.Lists.{accesses_at, set_at}
use Rattle.loop_marker.specs.Results.{ModuleResults}
use Rattle.loop_marker.specs.Phases.{phases_of, marks_found}
use Rattle.loop_marker.specs.module_phases.ScalarPhases.{scope_of}
use Rattle.loop_marker.specs.dependence_test.Body.{body_of, system_at}
use Rattle.loop_marker.specs.dependence_test.Finding.{loop_in}
use Rattle.loop_marker.specs.privatizer.Names.{may_copy}
use Rattle.loop_marker.specs.privatizer.Uses.{head_in, ins_in}
use Rattle.loop_marker.specs.privatizer.Private.{is_carried, is_live, private_in}
use Rattle.laws_interleavings.specs.MarkedStatements.{unit_of, unit_of_some}
use Rattle.laws_analyses.specs.Calls.Parts.{NoDummy}
use Rattle.laws_analyses.specs.Regions.Claims.{elements_of}
use Rattle.laws_analyses.specs.Regions.Settings.{elements_if, elements_with}
use Rattle.laws_marks.specs.ConflictExecutions.{Execution}
use Rattle.laws_marks.specs.ConflictClaims.{loop_with}
use Rattle.laws_interleavings.specs.Typed.{IsNoDummy}
use Rattle.laws_marks.specs.MarkedFit.{IsCopied}
use Rattle.laws_marks.specs.Dead.{index_name}
use Rattle.laws_marks.specs.Units.{index_in, IsPassing, UnitsStand, ModuleUnitsStand}
use Rattle.result_lines.specs.declared.reduction.Reduction.{Reduction}
use Rattle.laws_marks.specs.Said.{knowledge, said_at}
use Rattle.laws_marks.specs.Verdicts.{Says}
use Rattle.laws_marks.specs.Named.{AreNamesOf, IsOfIndex, IsOfOne, NamesStand, PlacesStand}
use Rattle.laws_marks.proofs.Dead.{copy_of}
use Rattle.laws_marks.proofs.Elements.{passing_stored}
use Rattle.laws_marks.proofs.Functions.{number_means, own_there}
use Rattle.laws_marks.proofs.Marked.{index_same, says}
use Rattle.laws_marks.proofs.Own.{TablesTell, passing}
use Rattle.laws_marks.proofs.PartsStanding.{parts_stand}
use Rattle.laws_marks.proofs.Written.{written_names}
use Rattle.laws_analyses.proofs.NameLaws.{name_number}
use Rattle.fx_lists.proofs.Options.{some_same}

-- ---- dummies

none_of : (ds : List Dummy) (v : ℕ) → NoDummy ds v → IsNoDummy ds v
none_of [] v h = tt
none_of (d ∷ ds) v h = (other (nat_eq v d.symbol) refl, none_of ds v (λ o. h (record { at = suc o.at; dummy = o.dummy; is_dummy = o.is_dummy; symbol = o.symbol })))
  where
    other : (b : Bool) → nat_eq v d.symbol ≡ b → b ≡ false
    other true e = absurd (h (record { at = zero; dummy = d; is_dummy = refl; symbol = sym (eqb-true v d.symbol e) }))
    other false e = refl

-- ---- names with units

-- a name that stands for a variable in whose place the unit is
record HasName (w : Names) (at : Places) (xs : List (List ℕ)) (u : ℕ) : Type 0 where
  name : List ℕ
  is_one : In name xs
  symbol : ℕ
  stands : w name ≡ Variable symbol
  there : in_place (at symbol) u ≡ true

one_name : (w : Names) (at : Places) (y : List ℕ) (ys : List (List ℕ)) (u : ℕ) (v : Meant) → w y ≡ v → unit_of v at u ≡ true → HasName w at (y ∷ ys) u
one_name w at y ys u (Constant c) e h = absurd (true≢false (sym h))
one_name w at y ys u (Variable n) e h = record { name = y; is_one = here; symbol = n; stands = e; there = h }
one_name w at y ys u Function e h = absurd (true≢false (sym h))

some_name : (w : Names) (at : Places) (xs : List (List ℕ)) (u : ℕ) → unit_of_some xs w at u ≡ true → HasName w at xs u
some_name w at [] u h = absurd (true≢false (sym h))
some_name w at (y ∷ ys) u h = go (unit_of (w y) at u) refl h (λ q. some_name w at ys u q)
  where
    more : HasName w at ys u → HasName w at (y ∷ ys) u
    more q = record { name = q.name; is_one = there q.is_one; symbol = q.symbol; stands = q.stands; there = q.there }

    go : (b : Bool) → unit_of (w y) at u ≡ b → (b || unit_of_some ys w at u) ≡ true → (unit_of_some ys w at u ≡ true → HasName w at ys u) → HasName w at (y ∷ ys) u
    go true e q ih = one_name w at y ys u (w y) refl e
    go false e q ih = more (ih q)

-- ---- what is known where private variables are looked for, and of the DO

head_same : (ps : List (At System)) (m : ScopeTree) (t : ℕ → Transformer) (rs : ℕ → List Region) (l : LoopTree) → head_in ps l ≡ (body_of l m t ps rs).head
head_same ps m t rs (tree.loop index first last step body) = refl

index_number : (m : ScopeTree) (l : LoopTree) → index_in m l ≡ unwrap_or (number_from 1 m.names (index_name l)) 0
index_number m (tree.loop index first last step body) = refl

-- ---- a DO

module _ (ks : List Known) (g : Graph) (f : ModuleResults) (numbered : HasNumbers f.known.read.body) (is : f.marks ≡ marks_found g.untracked (phases_of f) f.effects) (tell : TablesTell ks g f.known) (x : Execution) (e : ModuleUnitsStand ks g (phases_of f).known x)
    (l : LoopTree) (is_do : loop_in x.spot.statement f.known.read.body ≡ Some l) (reductions : Bool) (r : Reduction) (v : said_at g reductions f x.spot.statement ≡ Some r) where
  abbrev ns : List ℕ
  ns = r.private

  abbrev k : Known
  k = f.known

  abbrev m : ScopeTree
  m = scope_of g.untracked f.known

  stand : UnitsStand ks g (names k.symbols) (fixed (numbering ks g) k) (dummies_from 1 k.symbols) m (set_at f.regions.at x.spot.statement) l x
  stand = e l is_do

  said : Says (knowledge g f) x.spot.statement l r
  said = says g f numbered is x.spot.statement l is_do reductions r v

  may : (n : ℕ) → In n ns → may_copy k.read k.symbols (Own n) ≡ true
  may n i = copy_of (may_copy k.read k.symbols (Own n)) (is_carried ((knowledge g f).uses x.spot.statement l) (Own n)) (is_live ((knowledge g f).uses x.spot.statement l) (Own n)) (said.private n i)

  -- a unit in the place of a local that is not saved
  element : (n : ℕ) → IsPassing k.symbols n → (u : ℕ) → in_place (x.places n) u ≡ true → (phi : ℕ → ℤ) × (elements_with ks g k.symbols x.places (Own n) phi ≡ Some u)
  element n pass u h =
      let same = stand.fixed n (tell.local n pass) in
      let q = tell.elements n pass u (subst (λ (p : Place). in_place p u ≡ true) same h) in
      (q.phi, ap (λ b. elements_if b (x.places n) q.phi) (passing_stored k.symbols n pass) ∙ (ap (λ (p : Place). elements_of p q.phi) same ∙ q.there))

  units : (xs : List (List ℕ)) → AreNamesOf xs (names k.symbols) l ns → (u : ℕ) → unit_of_some xs (names k.symbols) x.places u ≡ true → IsOfIndex (names k.symbols) l x.places u ⊎ IsOfOne ks g k.symbols x.places ns u
  units xs are u h =
      let q = some_name (names k.symbols) x.places xs u h in
      ⊎_elim (λ i. inr (of_one q.symbol i q.there)) (λ same. inl (of_index q.symbol same q.there)) (are q.name q.is_one q.symbol q.stands)
    where
      of_one : (n : ℕ) → In n ns → in_place (x.places n) u ≡ true → IsOfOne ks g k.symbols x.places ns u
      of_one n i p = (let r = element n (passing k.read k.symbols n (may n i)) u p in record { number = n; is_one = i; phi = r.0; there = r.1 })

      of_index : (n : ℕ) → names k.symbols (index_name l) ≡ Variable n → in_place (x.places n) u ≡ true → IsOfIndex (names k.symbols) l x.places u
      of_index n same p =
          let number : ((knowledge g f).body l).index ≡ n = index_same g f numbered is l ∙ stand.number n same in
          let pass = passing k.read k.symbols n (subst (λ i. may_copy k.read k.symbols (Own i) ≡ true) number said.index) in
          let r = element n pass u p in
          record { symbol = n; is_symbol = same; unit = some_same (unit_in x.places n) u (sym (stand.index n same pass r.0) ∙ r.1) }

  copied : (u : ℕ) → IsOfOne ks g k.symbols x.places ns u → IsCopied ks g m x.places (loop_with g (phases_of f).known l) u
  copied u o = record {
    variable = Own o.number;
    unit = record { phi = o.phi; there = o.there };
    tree = k.read;
    before = system_at f.preconditions.at x.spot.statement;
    outs = set_at f.outs.at x.spot.statement;
    copied = subst (λ (s : System). private_in k.read k.symbols (record { head = s; ins = ins_in k.symbols (transformer_at f.transformers.at) (set_at f.regions.at) (set_at f.ins.at) l; before = system_at f.preconditions.at x.spot.statement; outs = set_at f.outs.at x.spot.statement }) (Own o.number) ≡ Yes)
        (head_same f.preconditions.at m (transformer_at f.transformers.at) (accesses_at f.regions.at) l) (said.private o.number o.is_one);
    sole = tell.sole (Own o.number) (may o.number o.is_one);
  }

  pub names_stand : NamesStand ks g m (names k.symbols) (loop_with g (phases_of f).known l) l r.private x.places
  names_stand = record { written = written_names k.symbols l ns tell.distinct (λ n i. passing k.read k.symbols n (may n i)); units = units; copied = copied }

  -- the variables of its directive, and that of the DO, lie at their own places
  pub places_stand : PlacesStand ks g k l r x.places
  places_stand = record {
    locals = λ n i. passing k.read k.symbols n (may n i);
    sole = λ n i. tell.sole (Own n) (may n i);
    distinct = tell.distinct;
    taken = λ y i w e. ⊎_elim inl (λ q. inr (number_means k.symbols y (index_name l) w e (q ∙ (index_same g f numbered is l ∙ index_number m l)))) (said.taken y i w (name_number k.symbols y w e));
    shown = λ n i e. (let p = passing k.read k.symbols n (may n i) in own_there k.read l k.symbols n p.symbol p.is_symbol (said.others n i) e);
    placed = λ w h. at_place w (⊎_elim (λ i. passing k.read k.symbols w (may w i)) (of_index w) h);
    parts = parts_stand ks g f x.spot.statement l r said x.places tell.sole at_place (λ w e. index_same g f numbered is l ∙ stand.number w e);
  }
    where
      of_index : (w : ℕ) → names k.symbols (index_name l) ≡ Variable w → IsPassing k.symbols w
      of_index w same = passing k.read k.symbols w (subst (λ i. may_copy k.read k.symbols (Own i) ≡ true) (index_same g f numbered is l ∙ stand.number w same) said.index)

      at_place : (w : ℕ) → IsPassing k.symbols w → IsNoDummy (dummies_from 1 k.symbols) w × (x.places w ≡ fixed (numbering ks g) k w)
      at_place w p = (none_of (dummies_from 1 k.symbols) w (tell.local w p), stand.fixed w (tell.local w p))
