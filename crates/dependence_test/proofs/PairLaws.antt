-- The system of a pair has a point where two iterations may access one unit.
use Rattle.std.proofs.Common.{◌≡◌, ℕ, suc, ◌+◌, List, [], ◌∷◌, ◌++◌, length, map, Bool, true, false, refl, sym, ap, ◌∙◌, subst, arith, ℤ, pos, length-append}
use Rattle.std.specs.Prelude.{if◌then◌else◌}
use Rattle.affine_systems.specs.declared.row.Var.{Var}
use Rattle.affine_systems.specs.declared.row.Var.TheVariants.{Cell, Exit, Phi, Aux}
use Rattle.affine_systems.specs.declared.row.System.{System}
use Rattle.affine_systems.specs.Points.{Point, HoldsAll}
use Rattle.affine_systems.specs.Calls.{meet}
use Rattle.affine_systems.proofs.CallLaws.{meet_holds}
use Rattle.preconditions.specs.transformer_algebra.Renaming.{renamed_by, rename_all}
use Rattle.preconditions.proofs.TransformerAlgebra.KeepLaws.{rename_all_holds, push_rows_holds}
use Rattle.preconditions.specs.transformer_algebra.Cells.{has}
use Rattle.preconditions.specs.transformer_algebra.Claims.{Scene, AtStart, HoldsAt}
use Rattle.region_sets.specs.Naming.{in_rows}
use Rattle.region_sets.specs.Claims.{HasCells, Describes}
use Rattle.region_sets.proofs.DescribedLaws.{stored, moved}
use Rattle.region_sets.proofs.NameLaws.{Agree, rows_agree}
use Rattle.dependence_test.specs.declared.body.LoopBody.{LoopBody}
use Rattle.dependence_test.specs.Variables.{cell_namings, at_iteration, index_at, named_subscripts, subscript_namings}
use Rattle.dependence_test.specs.Order.{order_rows}
use Rattle.dependence_test.specs.Pairs.{after_cells, earlier, later, with_later, pair_system}
use Rattle.dependence_test.proofs.VariableLaws.{Reads, number_at, number_past, first_past, reads_list, named_cell, other_cell, subscript_stays, named_subscript, cell_stays, exit_stays, aux_stays, is_named}
use Rattle.dependence_test.proofs.OrderLaws.{Between, steps_of, order_holds}

-- the point with these subscripts
abbrev with_phi : (ℕ → ℤ) → Point → Var → ℤ
with_phi phi p (Cell c) = p (Cell c)
with_phi phi p (Exit c) = p (Exit c)
with_phi phi p (Phi k) = phi k
with_phi phi p (Aux n) = p (Aux n)

-- the cells as at the earlier iteration, these subscripts, and a list of values
abbrev point : (ℕ → ℤ) → (ℕ → ℤ) → List ℤ → Var → ℤ
point f phi vs (Cell c) = f c
point f phi vs (Exit c) = pos 0
point f phi vs (Phi k) = phi k
point f phi vs (Aux n) = number_at vs n

abbrev read_by : Point → ℕ → List ℕ → Point
read_by p a cs v = p (renamed_by (cell_namings a cs) v)

module _ (m : Scene) (b : LoopBody) (x y : ℕ → ℤ) where
  abbrev numbers : (ℕ → ℤ) → ℕ → ℤ
  numbers z c = z (m.unit c)

  -- cells that no iteration changes have the same numbers
  abbrev pub Same : Type 0
  Same = (c : ℕ) → m.tracked c ≡ true → has b.cells c ≡ false → y (m.unit c) ≡ x (m.unit c)

  -- the numbers of one of the two
  start_of : (z : ℕ → ℤ) (p : Point) (a : ℕ) → ((c : ℕ) → m.tracked c ≡ true → has b.cells c ≡ false → p (Cell c) ≡ numbers z c) → Reads p (numbers z) a b.cells → AtStart m z (read_by p a b.cells)
  start_of z p a off r c tr = go (has b.cells c) refl
    where
      go : (h : Bool) → has b.cells c ≡ h → p (renamed_by (cell_namings a b.cells) (Cell c)) ≡ z (m.unit c)
      go true e = named_cell p (numbers z) a b.cells c r e
      go false e = ap p (other_cell a b.cells c e) ∙ off c tr e

  -- what holds where an iteration begins, with a system there
  iteration_holds : (z : ℕ → ℤ) (p : Point) (a : ℕ) (s : System) → HoldsAt m b.head z → AtStart m z (read_by p a b.cells) → HoldsAll (read_by p a b.cells) s.rows → HoldsAll p (at_iteration a b s).rows
  iteration_holds z p a s head st h =
      rename_all_holds (cell_namings a b.cells) (meet b.head s) p (meet_holds (read_by p a b.cells) b.head s (head (read_by p a b.cells) st, h))

  -- a system that describes these subscripts, at a point that has them as far as the system names them
  described_at : (n : ℕ → ℤ) (p : Point) (s : System) (phi : ℕ → ℤ) → HasCells n p → Describes s n phi → ((k : ℕ) → in_rows (Phi k) s.rows ≡ true → phi k ≡ p (Phi k)) → HoldsAll p s.rows
  described_at n p s phi h d named = rows_agree s.rows (with_phi phi p) p agree (d (with_phi phi p) h (λ k. refl))
    where
      agree : Agree (λ v. in_rows v s.rows) (with_phi phi p) p
      agree (Cell c) e = refl
      agree (Exit c) e = refl
      agree (Phi k) e = named k e
      agree (Aux n) e = refl

  module _ (head : HoldsAt m b.head x) (head' : HoldsAt m b.head y) (same : Same) (own : has b.cells b.index ≡ true) (s r : System) (phi psi : ℕ → ℤ) (ds : Describes s (stored m x) phi) (dr : Describes r (moved m b.cells y (stored m x)) psi) (between : Between (x (m.unit b.index)) (y (m.unit b.index)) b.step) where
    abbrev steps : ℤ
    steps = steps_of (x (m.unit b.index)) (y (m.unit b.index)) b.step between

    abbrev firsts : List ℤ
    firsts = map (numbers x) b.cells

    abbrev seconds : List ℤ
    seconds = map (numbers y) b.cells

    -- the values of subscripts of the later one, and the number of steps
    abbrev at_pair : List ℤ → Point
    at_pair zs = point (numbers x) phi (firsts ++ (seconds ++ (zs ++ steps ∷ [])))

    map_length : (f : ℕ → ℤ) (cs : List ℕ) → length (map f cs) ≡ length cs
    map_length f [] = refl
    map_length f (c ∷ cs) = ap suc (map_length f cs)

    first_reads : (zs : List ℤ) → Reads (at_pair zs) (numbers x) 0 b.cells
    first_reads zs = reads_list (at_pair zs) (numbers x) [] b.cells (seconds ++ (zs ++ steps ∷ [])) (λ n. refl)

    second_reads : (zs : List ℤ) → Reads (at_pair zs) (numbers y) (length b.cells) b.cells
    second_reads zs =
        subst (λ n. Reads (at_pair zs) (numbers y) n b.cells) (map_length (numbers x) b.cells) (reads_list (at_pair zs) (numbers y) firsts b.cells (zs ++ steps ∷ []) (λ n. refl))

    past_both : (us : List ℤ) (n : ℕ) → number_at (firsts ++ (seconds ++ us)) (after_cells b + n) ≡ number_at us n
    past_both us n =
        let one = map_length (numbers x) b.cells in
        let two = map_length (numbers y) b.cells in
        let e : after_cells b + n ≡ length firsts + (length seconds + n) = omega (arith, one, two) in
        ap (number_at (firsts ++ (seconds ++ us))) e ∙ number_past firsts (seconds ++ us) (length seconds + n) ∙ number_past seconds us n

    third_reads : (ks : List ℕ) → Reads (at_pair (map psi ks)) psi (after_cells b) ks
    third_reads ks = go (reads_list (at_pair (map psi ks)) psi (firsts ++ seconds) ks (steps ∷ []) (λ n. ap (λ l. number_at l n) (sym (assoc firsts seconds (map psi ks ++ steps ∷ [])))))
      where
        assoc : (us vs ws : List ℤ) → (us ++ vs) ++ ws ≡ us ++ (vs ++ ws)
        assoc [] vs ws = refl
        assoc (u ∷ us) vs ws = ap (λ l. u ∷ l) (assoc us vs ws)

        go : Reads (at_pair (map psi ks)) psi (length (firsts ++ seconds)) ks → Reads (at_pair (map psi ks)) psi (after_cells b) ks
        go h =
            let one = map_length (numbers x) b.cells in
            let two = map_length (numbers y) b.cells in
            let both = length-append firsts seconds in
            let e : length (firsts ++ seconds) ≡ after_cells b = omega (arith, one, two, both) in
            subst (λ n. Reads (at_pair (map psi ks)) psi n ks) e h

    last_is : (ks : List ℕ) → at_pair (map psi ks) (Aux (after_cells b + length ks)) ≡ steps
    last_is ks =
        let len = map_length psi ks in
        past_both (map psi ks ++ steps ∷ []) (length ks) ∙ ap (number_at (map psi ks ++ steps ∷ [])) (sym len) ∙ first_past (map psi ks) steps []

    -- ---- the earlier one

    first_start : (zs : List ℤ) → AtStart m x (read_by (at_pair zs) 0 b.cells)
    first_start zs = start_of x (at_pair zs) 0 (λ c tr e. refl) (first_reads zs)

    first_cells : (zs : List ℤ) → HasCells (stored m x) (read_by (at_pair zs) 0 b.cells)
    first_cells zs c = go (has b.cells c) refl
      where
        go : (h : Bool) → has b.cells c ≡ h → at_pair zs (renamed_by (cell_namings 0 b.cells) (Cell c)) ≡ x (m.unit c)
        go true e = named_cell (at_pair zs) (numbers x) 0 b.cells c (first_reads zs) e
        go false e = ap (at_pair zs) (other_cell 0 b.cells c e)

    earlier_holds : (zs : List ℤ) → HoldsAll (at_pair zs) (earlier b s).rows
    earlier_holds zs =
        iteration_holds x (at_pair zs) 0 s head (first_start zs) (ds (read_by (at_pair zs) 0 b.cells) (first_cells zs) (λ k. ap (at_pair zs) (subscript_stays 0 b.cells k)))

    -- ---- the later one

    second_start : (p : Point) → ((c : ℕ) → p (Cell c) ≡ numbers x c) → Reads p (numbers y) (length b.cells) b.cells → AtStart m y (read_by p (length b.cells) b.cells)
    second_start p cells r = start_of y p (length b.cells) (λ c tr e. cells c ∙ sym (same c tr e)) r

    second_cells : (p : Point) → ((c : ℕ) → p (Cell c) ≡ numbers x c) → Reads p (numbers y) (length b.cells) b.cells → HasCells (moved m b.cells y (stored m x)) (read_by p (length b.cells) b.cells)
    second_cells p cells r c = go (has b.cells c) refl
      where
        go : (h : Bool) → has b.cells c ≡ h → p (renamed_by (cell_namings (length b.cells) b.cells) (Cell c)) ≡ (if h then y (m.unit c) else x (m.unit c))
        go true e = named_cell p (numbers y) (length b.cells) b.cells c r e
        go false e = ap p (other_cell (length b.cells) b.cells c e) ∙ cells c

    later_holds : (p : Point) → ((c : ℕ) → p (Cell c) ≡ numbers x c) → Reads p (numbers y) (length b.cells) b.cells → ((k : ℕ) → in_rows (Phi k) r.rows ≡ true → psi k ≡ p (Phi k)) → HoldsAll p (later b r).rows
    later_holds p cells reads named =
        let st = second_start p cells reads in
        iteration_holds y p (length b.cells) r head' st (described_at (moved m b.cells y (stored m x)) (read_by p (length b.cells) b.cells) r psi (second_cells p cells reads) dr (λ k e. named k e ∙ ap p (sym (subscript_stays (length b.cells) b.cells k))))

    -- ---- both

    index_first : (zs : List ℤ) → at_pair zs (index_at 0 b) ≡ x (m.unit b.index)
    index_first zs = named_cell (at_pair zs) (numbers x) 0 b.cells b.index (first_reads zs) own

    index_second : (zs : List ℤ) → at_pair zs (index_at (length b.cells) b) ≡ y (m.unit b.index)
    index_second zs = named_cell (at_pair zs) (numbers y) (length b.cells) b.cells b.index (second_reads zs) own

    both_hold : (zs : List ℤ) (w : System) (n : ℕ) → HoldsAll (at_pair zs) w.rows → at_pair zs (Aux n) ≡ steps → HoldsAll (at_pair zs) (with_later b s (record { system = w; next = n })).rows
    both_hold zs w n h e =
        push_rows_holds (meet (earlier b s) w) (order_rows b.step (index_at 0 b) (index_at (length b.cells) b) (Aux n)) (at_pair zs) (meet_holds (at_pair zs) (earlier b s) w (earlier_holds zs, h))
        (order_holds (at_pair zs) (index_at 0 b) (index_at (length b.cells) b) (Aux n) (x (m.unit b.index)) (y (m.unit b.index)) (index_first zs) (index_second zs) b.step between e)

    -- of one variable: the subscripts are the same, as far as they are named
    shared_holds : ((k : ℕ) → in_rows (Phi k) r.rows ≡ true → phi k ≡ psi k) → HoldsAll (at_pair []) (pair_system b true s r).rows
    shared_holds alike =
        let none : after_cells b ≡ after_cells b + 0 = omega arith in
        both_hold [] (later b r) (after_cells b) (later_holds (at_pair []) (λ c. refl) (second_reads []) (λ k e. sym (alike k e))) (ap (λ n. at_pair [] (Aux n)) none ∙ last_is [])

    -- of two variables: those of the later one have variables of their own
    apart_holds : HoldsAll (at_pair (map psi (named_subscripts (later b r)))) (pair_system b false s r).rows
    apart_holds =
        let w = later b r in
        let ks = named_subscripts w in
        let p = at_pair (map psi ks) in
        both_hold (map psi ks) (rename_all (subscript_namings (after_cells b) ks) w) (after_cells b + length ks) (rename_all_holds (subscript_namings (after_cells b) ks) w p (named ks refl)) (last_is ks)
      where
        agree : (ks : List ℕ) → ((k : ℕ) → in_rows (Phi k) (later b r).rows ≡ true → has ks k ≡ true) → Agree (λ v. in_rows v (later b r).rows) (with_phi psi (at_pair (map psi ks))) (λ v. at_pair (map psi ks) (renamed_by (subscript_namings (after_cells b) ks) v))
        agree ks all (Cell c) e = ap (at_pair (map psi ks)) (sym (cell_stays (after_cells b) ks c))
        agree ks all (Exit c) e = ap (at_pair (map psi ks)) (sym (exit_stays (after_cells b) ks c))
        agree ks all (Phi k) e = sym (named_subscript (at_pair (map psi ks)) psi (after_cells b) ks k (third_reads ks) (all k e))
        agree ks all (Aux n) e = ap (at_pair (map psi ks)) (sym (aux_stays (after_cells b) ks n))

        phi_reads : (p : Point) (f : ℕ → ℤ) (a : ℕ) (cs : List ℕ) → Reads p f a cs → Reads (with_phi psi p) f a cs
        phi_reads p f a [] h = tt
        phi_reads p f a (c ∷ cs) h = (h.0, phi_reads p f (a + 1) cs h.1)

        named : (ks : List ℕ) → ks ≡ named_subscripts (later b r) → HoldsAll (λ v. at_pair (map psi ks) (renamed_by (subscript_namings (after_cells b) ks) v)) (later b r).rows
        named ks e =
            rows_agree (later b r).rows (with_phi psi (at_pair (map psi ks))) (λ v. at_pair (map psi ks) (renamed_by (subscript_namings (after_cells b) ks) v)) (agree ks (λ k i. subst (λ (l : List ℕ). has l k ≡ true) (sym e) (is_named (later b r) k i)))
            (later_holds (with_phi psi (at_pair (map psi ks))) (λ c. refl) (phi_reads (at_pair (map psi ks)) (numbers y) (length b.cells) b.cells (second_reads (map psi ks))) (λ k i. refl))

    pub pair_holds : (alike : Bool) → (alike ≡ true → (k : ℕ) → in_rows (Phi k) r.rows ≡ true → phi k ≡ psi k) → (p : Point) × HoldsAll p (pair_system b alike s r).rows
    pair_holds true f = (at_pair [], shared_holds (f refl))
    pair_holds false f = (at_pair (map psi (named_subscripts (later b r))), apart_holds)
