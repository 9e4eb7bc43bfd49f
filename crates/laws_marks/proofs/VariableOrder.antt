-- The variables of a DO of which marks and reductions are made come in their order, each once.
use Rattle.std.proofs.Common.{◌≡◌, ℕ, Bool, true, false, List, [], ◌∷◌, Option, Some, None, refl, sym, ap, ap₂, ◌∙◌, Ordering}
use Rattle.std.specs.Prelude.{if◌then◌else◌}
use Rattle.std.specs.declared.cmp.Ordering.TheVariants.{Less, Equal, Greater}
use Rattle.std.specs.Ordering.{nat_cmp, ordering_then, match_ordering}
use Rattle.std.proofs.lemmas.Cmp.{nat_cmp_total, tied_itself}
use Rattle.f77_ast.specs.Trees.{LoopTree}
use Rattle.f77_ast.specs.DeclTrees.{ModuleTree}
use Rattle.f77_ast.specs.Shapes.{walk_list}
use Rattle.f77_ast.specs.Symbols.{number_from}
use Rattle.f77_ast.specs.declared.variable.Variable.{Variable}
use Rattle.f77_ast.specs.declared.variable.Variable.TheVariants.{Own}
use Rattle.f77_ast.specs.Variables.{variable_cmp, merged, union}
use Rattle.preconditions.specs.transformer_algebra.Laws.{In, here, there}
use Rattle.in_out_regions.specs.region_sets.declared.region.Access.{Access}
use Rattle.in_out_regions.specs.region_sets.declared.region.Access.TheVariants.{Read, Write, In as AtIn, Out}
use Rattle.in_out_regions.specs.region_sets.declared.region.Region.{Region}
use Rattle.in_out_regions.specs.region_sets.Sets.{access_number}
use Rattle.loop_marker.specs.privatizer.Functions.{own_functions}
use Rattle.loop_marker.specs.Jumps.{body_of}
use Rattle.loop_marker.specs.Variables.{own_variable, the_indexes, in_order_with, indexes_in, with_names, inner_in, is_write, written_in}
use Rattle.laws_marks.proofs.InUnique.{variable_total, reversed, Ahead, Ordered}

-- ---- lists in order

-- each of the list comes after the variable
abbrev pub IsBefore : Variable → List Variable → Type 0
IsBefore v ws = (w : Variable) → In w ws → variable_cmp v w ≡ Less

abbrev pub Ascends : List Variable → Type 0
Ascends [] = Unit {0}
Ascends (v ∷ vs) = IsBefore v vs × Ascends vs

before_none : (v : Variable) → IsBefore v []
before_none v w i = elim i [ ]

before_more : (v w : Variable) (ws : List Variable) → variable_cmp v w ≡ Less → IsBefore v ws → IsBefore v (w ∷ ws)
before_more v w ws l h x here = l
before_more v w ws l h x (there i) = h x i

before_rest : (v w : Variable) (ws : List Variable) → IsBefore v (w ∷ ws) → IsBefore v ws
before_rest v w ws h x i = h x (there i)

-- ---- unions

module _ (v : Variable) (others : List Variable → List Variable) (keep : (x : Variable) → variable_cmp x v ≡ Less → (zs : List Variable) → IsBefore x zs → IsBefore x (others zs)) where
  merged_before : (x : Variable) → variable_cmp x v ≡ Less → (ws : List Variable) → IsBefore x ws → IsBefore x (merged v others ws)
  merged_before x l [] h = before_more x v (others []) l (keep x l [] h)
  merged_before x l (w ∷ ws) h = go (variable_cmp v w) (merged_before x l ws (before_rest x w ws h))
    where
      go : (o : Ordering) → IsBefore x (merged v others ws) → IsBefore x (match_ordering o (v ∷ others (w ∷ ws)) (v ∷ others ws) (w ∷ merged v others ws))
      go Less ih = before_more x v (others (w ∷ ws)) l (keep x l (w ∷ ws) h)
      go Equal ih = before_more x v (others ws) l (keep x l ws (before_rest x w ws h))
      go Greater ih = before_more x w (merged v others ws) (h w here) ih

  merged_ascends : ((zs : List Variable) → IsBefore v zs → IsBefore v (others zs)) → ((zs : List Variable) → Ascends zs → Ascends (others zs)) → (ws : List Variable) → Ascends ws → Ascends (merged v others ws)
  merged_ascends own up [] h = (own [] (before_none v), up [] tt)
  merged_ascends own up (w ∷ ws) h = go (variable_cmp v w) refl (merged_ascends own up ws h.1)
    where
      go : (o : Ordering) → variable_cmp v w ≡ o → Ascends (merged v others ws) → Ascends (match_ordering o (v ∷ others (w ∷ ws)) (v ∷ others ws) (w ∷ merged v others ws))
      go Less e ih = (own (w ∷ ws) (before_more v w ws e (λ x i. variable_total.trans v w x e (h.0 x i))), up (w ∷ ws) h)
      go Equal e ih = (own ws (λ x i. variable_total.congr v w x e ∙ h.0 x i), up ws h.1)
      go Greater e ih = (merged_before w (reversed (variable_cmp w v) (sym e ∙ variable_total.antisymm v w)) ws h.0, ih)

union_before : (x : Variable) (vs ws : List Variable) → Ascends vs → IsBefore x vs → IsBefore x ws → IsBefore x (union vs ws)
union_before x [] ws a h k = k
union_before x (v ∷ vs) ws a h k = merged_before v (union vs) (λ y l zs z. union_before y vs zs a.1 (λ w i. variable_total.trans y v w l (a.0 w i)) z) x (h v here) ws k

union_ascends : (vs ws : List Variable) → Ascends vs → Ascends ws → Ascends (union vs ws)
union_ascends [] ws a b = b
union_ascends (v ∷ vs) ws a b =
    merged_ascends v (union vs) (λ y l zs z. union_before y vs zs a.1 (λ w i. variable_total.trans y v w l (a.0 w i)) z) (λ zs z. union_before v vs zs a.1 a.0 z) (λ zs z. union_ascends vs zs a.1 z) ws b

-- ---- the variables of which each iteration has its own

own_ascends : (o : Option ℕ) → Ascends (own_variable o)
own_ascends None = tt
own_ascends (Some n) = (before_none (Own n), tt)

ordered_ascends : (so_far vs : List Variable) → Ascends so_far → Ascends (in_order_with so_far vs)
ordered_ascends so_far [] a = a
ordered_ascends so_far (v ∷ vs) a = ordered_ascends (union so_far (v ∷ [])) vs (union_ascends so_far (v ∷ []) a (before_none v, tt))

names_ascend : (names : List (List ℕ)) (so_far : List Variable) (xs : List (List ℕ)) → Ascends so_far → Ascends (with_names names so_far xs)
names_ascend names so_far [] a = a
names_ascend names so_far (x ∷ xs) a = (let own = own_variable (number_from 1 names x) in names_ascend names (union so_far own) xs (union_ascends so_far own a (own_ascends (number_from 1 names x))))

inner_ascends : (names : List (List ℕ)) (m : ModuleTree) (l : LoopTree) → Ascends (inner_in names m l)
inner_ascends names m l = names_ascend names (indexes_in names (body_of l)) (own_functions m (body_of l)) (ordered_ascends [] (walk_list (the_indexes names) (body_of l)) tt)

-- ---- those that are written

write_is : (a : Access) → is_write a ≡ true → a ≡ Write
write_is Read e = cc
write_is Write e = refl
write_is AtIn e = cc
write_is Out e = cc

written_before : (r : Region) → r.kind ≡ Write → (qs : List Region) → Ahead r qs → IsBefore r.variable (written_in qs)
written_before r k [] h = before_none r.variable
written_before r k (q ∷ qs) h = go (is_write q.kind) refl (written_before r k qs (λ x i. h x (there i)))
  where
    go : (b : Bool) → is_write q.kind ≡ b → IsBefore r.variable (written_in qs) → IsBefore r.variable (if b then q.variable ∷ written_in qs else written_in qs)
    go false e ih = ih
    go true e ih =
        let kinds : nat_cmp (access_number r.kind) (access_number q.kind) ≡ Equal = ap₂ (λ x y. nat_cmp (access_number x) (access_number y)) k (write_is q.kind e) ∙ tied_itself nat_cmp_total (access_number Write) in
        before_more r.variable q.variable (written_in qs) (sym (ap (λ o. ordering_then o (variable_cmp r.variable q.variable)) kinds) ∙ h q here) ih

written_ascends : (rs : List Region) → Ordered rs → Ascends (written_in rs)
written_ascends [] h = tt
written_ascends (r ∷ rs) h = go (is_write r.kind) refl (written_ascends rs h.1)
  where
    go : (b : Bool) → is_write r.kind ≡ b → Ascends (written_in rs) → Ascends (if b then r.variable ∷ written_in rs else written_in rs)
    go false e ih = ih
    go true e ih = (written_before r (write_is r.kind e) rs h.0, ih)

-- those that are looked at, one after the other
pub all_ascend : (names : List (List ℕ)) (m : ModuleTree) (l : LoopTree) (rs : List Region) → Ordered rs → Ascends (union (inner_in names m l) (written_in rs))
all_ascend names m l rs h = union_ascends (inner_in names m l) (written_in rs) (inner_ascends names m l) (written_ascends rs h)
