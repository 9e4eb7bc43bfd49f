-- A variable of which each iteration may have its own copy is written there before it is read.
use Rattle.std.proofs.Common.{◌≡◌, ◌⊎◌, ⊎_elim, ℕ, ℤ, List, ◌&&◌, Option, Some, None, Bool, true, false, refl, sym, ap, ◌∙◌, subst, true≢false}
use Rattle.std.specs.Prelude.{not}
use Rattle.std.proofs.lemmas.Bool.{and_parts, and_from, or_from, not-true}
use Rattle.affine_systems.specs.declared.row.System.{System}
use Rattle.f77_ast.specs.Trees.{LoopTree}
use Rattle.f77_ast.specs.DeclTrees.{ModuleTree}
use Rattle.f77_ast.specs.Writes.{Locks}
use Rattle.f77_ast.specs.Symbols.{SymbolTree}
use Rattle.f77_ast.specs.Shared.{symbol_at, overlap}
use Rattle.f77_ast.specs.declared.variable.Variable.{Variable}
use Rattle.f77_ast.specs.declared.variable.Variable.TheVariants.{Own, Block, Saved}
use Rattle.f77_meaning.specs.Accesses.{is_read_first}
use Rattle.f77_meaning.specs.Areas.{is_own_unit}
use Rattle.f77_meaning.specs.Linked.{numbering}
use Rattle.affine_forms.specs.Claims.{numbers_of}
use Rattle.preconditions.specs.transformer_algebra.Claims.{HoldsAt}
use Rattle.f77_ast.specs.declared.marks.Private.{Private}
use Rattle.f77_ast.specs.declared.marks.Private.TheVariants.{Yes}
use Rattle.in_out_regions.specs.region_sets.declared.region.Access.TheVariants.{In as AtIn}
use Rattle.in_out_regions.specs.region_sets.declared.region.Region.{Region}
use Rattle.in_out_regions.specs.region_sets.Claims.{LiesInSet}
use Rattle.loop_marker.specs.privatizer.Names.{is_equivalenced, is_own_symbol, may_copy}
use Rattle.loop_marker.specs.privatizer.Uses.{Uses}
use Rattle.loop_marker.specs.privatizer.Private.{is_carried, is_live, private_by, private_in}
use Rattle.loop_marker.specs.privatizer.Claims.{IsPrivate, IfPrivate}
use Rattle.loop_marker.proofs.Privatizer.PrivateLaws.{answer_sound}
use Rattle.laws_analyses.specs.Regions.Settings.{scene, elements_at}
use Rattle.laws_analyses.specs.Regions.Shown.{is_lost, is_hidden}
use Rattle.laws_marks.specs.InFrames.{Frame, elements_in}
use Rattle.laws_marks.specs.InShown.{FirstHolds, IsFree}
use Rattle.laws_marks.specs.InUnits.{UnitsFit}
use Rattle.laws_marks.proofs.InFirsts.{lost_known}
use Rattle.laws_marks.proofs.InFramed.{elements_on}
use Rattle.laws_marks.specs.ConflictIterations.{Iteration}
use Rattle.call_graph.specs.Visible.{is_local}
use Rattle.f77_ast.specs.Variables.{same_variable}
use Rattle.f77_ast.proofs.SameLaws.{same_itself}

-- a unit of a local that is not saved: it is none of an expression, and other variables that have it overlap the local by the tables
pub record Sole (k : Frame) (n u : ℕ) : Type 0 where
  pub own : is_own_unit (numbering k.ks k.g) u ≡ false
  pub others : (w : Variable) (psi : ℕ → ℤ) → elements_in k w psi ≡ Some u → (w ≡ Own n) ⊎ (overlap k.m.symbols w (Own n) ≡ true)

abbrev pub AllSole : Frame → Type 0
AllSole k = (n : ℕ) (s : SymbolTree) → symbol_at k.m.symbols n ≡ Some s → is_local s.place ≡ true → s.saved ≡ false → (phi : ℕ → ℤ) (u : ℕ) → elements_in k (Own n) phi ≡ Some u → Sole k n u

-- only a variable whose name allows copies is private
copy_of : (a b c : Bool) → private_by a b c ≡ Yes → a ≡ true
copy_of true b c e = refl
copy_of false b c e = cc

-- a local that is not saved
record Copied (ss : List SymbolTree) (n : ℕ) : Type 0 where
  symbol : SymbolTree
  is_symbol : symbol_at ss n ≡ Some symbol
  local : is_local symbol.place ≡ true
  unsaved : symbol.saved ≡ false

copied : (t : ModuleTree) (ss : List SymbolTree) (n : ℕ) → may_copy t ss (Own n) ≡ true → Copied ss n
copied t ss n h = go (symbol_at ss n) refl h
  where
    go : (o : Option SymbolTree) → symbol_at ss n ≡ o → is_own_symbol t o ≡ true → Copied ss n
    go None e q = absurd (true≢false (sym q))
    go (Some s) e q =
        let p = and_parts (is_local s.place) (not s.saved && not (is_equivalenced t s.name)) q in
        let r = and_parts (not s.saved) (not (is_equivalenced t s.name)) p.1 in
        record { symbol = s; is_symbol = e; local = p.0; unsaved = not-true s.saved r.0 }

module _ (k : Frame) (locked : Locks) (units : UnitsFit k locked) (sole : AllSole k) (loop : LoopTree) (head : System) (ins : List Region) (it : Iteration) (holds : HoldsAt (scene k.base) head (numbers_of it.start)) (firsts : FirstHolds k ins it.start it.did) (free : IsFree k locked it.did) (t : ModuleTree) (before : System) (outs : List Region) where
  abbrev uses : Uses
  uses = record { head = head; ins = ins; before = before; outs = outs }

  -- what is read first, but what is hidden
  abbrev first : ℕ → Bool
  first u = is_read_first u it.did && not (is_hidden k.ks k.g it.did u)

  contained : (u : ℕ) → first u ≡ true → LiesInSet (scene k.base) (elements_in k) AtIn ins (numbers_of it.start) u
  contained u e = (let p = and_parts (is_read_first u it.did) (not (is_hidden k.ks k.g it.did u)) e in firsts u (record { is_so = p.0; seen = not-true (is_hidden k.ks k.g it.did u) p.1 }))

  module _ (n : ℕ) (yes : private_in t k.m.symbols uses (Own n) ≡ Yes) (alone : (w : Variable) → overlap k.m.symbols w (Own n) ≡ true → ⊥) where
    is_private : IsPrivate uses (Own n)
    is_private = subst (λ (a : Private). IfPrivate a (λ l. uses) (Some loop) (Own n)) yes (answer_sound t k.m.symbols (Own n) (λ l. uses) (Some loop))

    module _ (phi : ℕ → ℤ) (u : ℕ) (there : elements_in k (Own n) phi ≡ Some u) where
      c : Copied k.m.symbols n
      c = copied t k.m.symbols n (copy_of (may_copy t k.m.symbols (Own n)) (is_carried uses (Own n)) (is_live uses (Own n)) yes)

      s : Sole k n u
      s = sole n c.symbol c.is_symbol c.local c.unsaved phi u there

      not_lost : (b : Bool) → is_lost k.ks k.g it.did u ≡ b → is_lost k.ks k.g it.did u ≡ false
      not_lost true q = (let w = lost_known k.ks k.g u it.did q in absurd (units.not_lost (Own n) phi u there (free.lost u q) w.0 w.1))
      not_lost false q = q

      seen : is_hidden k.ks k.g it.did u ≡ false
      seen = or_from (is_own_unit (numbering k.ks k.g) u) (is_lost k.ks k.g it.did u) s.own (not_lost (is_lost k.ks k.g it.did u) refl)

      lone : (w : Variable) (psi : ℕ → ℤ) → elements_in k w psi ≡ Some u → same_variable w (Own n) ≡ true
      lone w psi e = ⊎_elim (λ same. subst (λ v. same_variable v (Own n) ≡ true) (sym same) (same_itself (Own n))) (λ over. absurd (alone w over)) (s.others w psi e)

      not_first : is_read_first u it.did ≡ false
      not_first = go (is_read_first u it.did) refl
        where
          go : (b : Bool) → is_read_first u it.did ≡ b → is_read_first u it.did ≡ false
          go false q = q
          go true q =
              absurd (true≢false (sym (and_from (is_read_first u it.did) (not (is_hidden k.ks k.g it.did u)) q (ap not seen))
              ∙ is_private.written_first (scene k.base) (elements_in k) (numbers_of it.start) holds first contained u lone))

  pub written_first : (v : Variable) → private_in t k.m.symbols uses v ≡ Yes → ((w : Variable) → overlap k.m.symbols w v ≡ true → ⊥) → (phi : ℕ → ℤ) (u : ℕ) → elements_at k.base v phi ≡ Some u → is_read_first u it.did ≡ false
  written_first (Own n) is_yes alone phi u e = not_first n is_yes alone phi u (ap (λ f. f phi) (sym (elements_on k (Own n) (k.own n))) ∙ e)
  written_first (Block b) is_yes alone phi u e = absurd (true≢false (sym (copy_of false (is_carried uses (Block b)) (is_live uses (Block b)) is_yes)))
  written_first (Saved x y) is_yes alone phi u e = absurd (true≢false (sym (copy_of false (is_carried uses (Saved x y)) (is_live uses (Saved x y)) is_yes)))
