-- Where each iteration may have its own copy of a variable, no unit of it lies in the IN regions of the body, nor in the OUT regions of the DO.
use Rattle.std.proofs.Common.{◌≡◌, List, [], ◌∷◌, ◌&&◌, Bool, true, false, Option, Some, None, refl}
use Rattle.std.specs.Prelude.{not}
use Rattle.std.proofs.lemmas.Bool.{or_parts}
use Rattle.affine_systems.specs.declared.row.System.{System}
use Rattle.affine_systems.specs.Calls.{meet}
use Rattle.affine_systems.proofs.CallLaws.{meet_holds}
use Rattle.hull_projection.specs.Refute.{refuted}
use Rattle.hull_projection.proofs.RefuteLaws.{refuted_none}
use Rattle.f77_ast.specs.Trees.{LoopTree}
use Rattle.f77_ast.specs.DeclTrees.{ModuleTree}
use Rattle.f77_ast.specs.Symbols.{SymbolTree}
use Rattle.f77_ast.specs.declared.variable.Variable.{Variable}
use Rattle.preconditions.specs.transformer_algebra.Laws.{In, here, there}
use Rattle.f77_ast.specs.declared.marks.Private.{Private}
use Rattle.f77_ast.specs.declared.marks.Private.TheVariants.{Yes, Name, Carried, Live}
use Rattle.in_out_regions.specs.region_sets.declared.region.Access.{Access}
use Rattle.in_out_regions.specs.region_sets.declared.region.Access.TheVariants as access
use Rattle.in_out_regions.specs.region_sets.declared.region.Region.{Region}
use Rattle.in_out_regions.proofs.RegionSets.DescribedLaws.{arrival, stored}
use Rattle.privatizer.specs.Uses.{Uses}
use Rattle.privatizer.specs.Names.{may_copy}
use Rattle.privatizer.specs.Private.{may_hold, some_may_hold, region_may, may_lie, is_carried, is_live, private_by, private_in, private_at}
use Rattle.privatizer.specs.Claims.{NoneLies, IsPrivate, IsPrivateAt, IfPrivate}
use Rattle.fx_lists.proofs.Booleans.{clash as clashes}
use Rattle.f77_ast.specs.Variables.{same_variable}

-- ---- all are refuted

none_holds : (p : System) (ss : List System) (s : System) → some_may_hold p ss ≡ false → In s ss → refuted (meet s p).rows ≡ true
none_holds p [] s e i = elim i [ ]
none_holds p (r ∷ ss) s e here = go (refuted (meet s p).rows) (or_parts (may_hold p s) (some_may_hold p ss) e).0
  where
    go : (b : Bool) → not b ≡ false → b ≡ true
    go true q = refl
    go false q = clashes true refl q
none_holds p (r ∷ ss) s e (there i) = none_holds p ss s (or_parts (may_hold p r) (some_may_hold p ss) e).1 i

none_may : (p : System) (v : Variable) (r : Region) → region_may p v r ≡ false → same_variable r.variable v ≡ true → some_may_hold p r.pieces ≡ false
none_may p v r e same = go (same_variable r.variable v) same e
  where
    go : (b : Bool) → b ≡ true → (b && some_may_hold p r.pieces) ≡ false → some_may_hold p r.pieces ≡ false
    go true q h = h
    go false q h = clashes false q refl

none_of : (p : System) (v : Variable) (rs : List Region) (r : Region) (s : System) → may_lie p v rs ≡ false → In r rs → same_variable r.variable v ≡ true → In s r.pieces → refuted (meet s p).rows ≡ true
none_of p v [] r s e i same j = elim i [ ]
none_of p v (q ∷ rs) r s e here same j = none_holds p r.pieces s (none_may p v r (or_parts (region_may p v r) (may_lie p v rs) e).0 same) j
none_of p v (q ∷ rs) r s e (there i) same j = none_of p v rs r s (or_parts (region_may p v q) (may_lie p v rs) e).1 i same j

-- ---- no unit lies in them

none_lies : (p : System) (v : Variable) (rs : List Region) (k : Access) → may_lie p v rs ≡ false → NoneLies p k rs v
none_lies p v rs k e m at x h units contained u alone = go (units u) refl
  where
    go : (b : Bool) → units u ≡ b → b ≡ false
    go true q =
        let l = contained u q in
        let d = l.lies.described (stored m x) (λ c t. refl) in
        let w = arrival (stored m x) l.lies.phi in
        absurd (refuted_none w (meet d.piece p).rows (none_of p v rs l.region d.piece e l.is_one (alone l.region.variable l.lies.phi l.lies.there) d.is_one) (meet_holds w d.piece p (d.holds w (λ c. refl) (λ i. refl), h w (λ c t. refl))))
    go false q = refl

by_is_private : (a b c : Bool) (u : Uses) (v : Variable) → is_carried u v ≡ b → is_live u v ≡ c → private_by a b c ≡ Yes → IsPrivate u v
by_is_private false b c u v eb ec q = cc
by_is_private true true c u v eb ec q = cc
by_is_private true false true u v eb ec q = cc
by_is_private true false false u v eb ec q =
    record { written_first = λ m at x h units cont n alone. none_lies u.head v u.ins access.In eb m at x h units cont n alone; dead = λ m at x h units cont n alone. none_lies u.before v u.outs access.Out ec m at x h units cont n alone }

if_yes : (p : Private) (uses : LoopTree → Uses) (o : Option LoopTree) (v : Variable) → (p ≡ Yes → IsPrivateAt uses o v) → IfPrivate p uses o v
if_yes Yes uses o v f = f refl
if_yes Name uses o v f = tt
if_yes Carried uses o v f = tt
if_yes Live uses o v f = tt

pub answer_sound : (t : ModuleTree) (ss : List SymbolTree) (v : Variable) (uses : LoopTree → Uses) (o : Option LoopTree) → IfPrivate (private_at t ss v uses o) uses o v
answer_sound t ss v uses None = tt
answer_sound t ss v uses (Some l) = if_yes (private_in t ss (uses l) v) uses (Some l) v (λ e. by_is_private (may_copy t ss v) (is_carried (uses l) v) (is_live (uses l) v) (uses l) v refl refl e)
