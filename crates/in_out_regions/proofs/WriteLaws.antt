-- WRITE regions are found by their variable, and variables that their order does not tell apart have the same.
use Rattle.std.proofs.Common.{◌≡◌, Bool, true, false, List, [], ◌∷◌, Option, Some, refl, ap, subst, ◌∙◌}
use Rattle.std.specs.Prelude.{◌&&◌, if◌then◌else◌}
use Rattle.std.specs.declared.cmp.Ordering.TheVariants.{Equal}
use Rattle.std.specs.Ordering.{is_eq}
use Rattle.std.proofs.lemmas.Bool.{and_parts}
use Rattle.f77_ast.specs.declared.variable.Variable.{Variable}
use Rattle.f77_ast.specs.Variables.{variable_cmp, same_variable}
use Rattle.array_regions.specs.transformer_algebra.Laws.{In, here, there}
use Rattle.array_regions.specs.region_sets.declared.region.Access.{Access}
use Rattle.array_regions.specs.region_sets.declared.region.Access.TheVariants.{Read, Write, In as First, Out}
use Rattle.array_regions.specs.region_sets.declared.region.Region.{Region}
use Rattle.in_out_regions.specs.Kinds.{is_write}
use Rattle.in_out_regions.specs.Writes.{is_write_of, write_of}
use Rattle.fx_lists.proofs.Orders.{at_equal}
use Rattle.f77_ast.proofs.SameLaws.{cmp_same, cmp_if}

-- ---- WRITE regions

pub write_if : (k : Access) → is_write k ≡ true → k ≡ Write
write_if Read e = cc
write_if Write e = refl
write_if First e = cc
write_if Out e = cc

-- the one that is found is one of them, and of the variable
pub record Found (v : Variable) (ws : List Region) (w : Region) : Type 0 where
  pub is_one : In w ws
  pub kind : w.kind ≡ Write
  pub order : variable_cmp v w.variable ≡ Equal

pub write_found : (v : Variable) (ws : List Region) (w : Region) → write_of v ws ≡ Some w → Found v ws w
write_found v [] w e = cc
write_found v (z ∷ zs) w e = go (is_write_of v z) refl e (λ q. write_found v zs w q)
  where
    go : (b : Bool) → is_write_of v z ≡ b → (if b then Some z else write_of v zs) ≡ Some w → (write_of v zs ≡ Some w → Found v zs w) → Found v (z ∷ zs) w
    go true f q ih =
        let same : z ≡ w = cc in
        let both = and_parts (is_write z.kind) (same_variable v z.variable) f in
        subst (Found v (z ∷ zs)) same (record { is_one = here; kind = write_if z.kind both.0; order = cmp_if v z.variable both.1 })
    go false f q ih = let h = ih q in record { is_one = there h.is_one; kind = h.kind; order = h.order }

-- found by either of two that the order does not tell apart
pub write_same : (v w : Variable) (ws : List Region) → variable_cmp v w ≡ Equal → write_of v ws ≡ write_of w ws
write_same v w [] e = refl
write_same v w (z ∷ zs) e =
    let pick : Bool → Option Region → Option Region = λ b o. if b then Some z else o in
    ap (λ o. pick (is_write z.kind && is_eq o) (write_of v zs)) (cmp_same v w z.variable e) ∙ ap (pick (is_write_of w z)) (write_same v w zs e)
