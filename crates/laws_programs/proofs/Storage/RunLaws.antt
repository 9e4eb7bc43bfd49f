-- The runs of a name, made of its pieces: each has some units, and none past an end that the pieces keep to.
use Rattle.std.proofs.Common.{◌≡◌, ℕ, zero, suc, ◌+◌, ◌<◌, ◌≤◌, Bool, true, false, List, [], ◌∷◌, Option, Some, None, refl, sym, ap, ◌∙◌, subst, arith, reverse}
use Rattle.std.specs.Prelude.{if◌then◌else◌, nat_eq, ◌&&◌, slice_get}
use Rattle.std.specs.Ordering.{int_eq}
use Rattle.std.proofs.lemmas.Bool.{and_parts, eqb-true}
use Rattle.f77_ast.specs.declared.constant.Constant.{Constant}
use Rattle.f77_ast.specs.declared.symbol.InitialRun.{InitialRun}
use Rattle.storage_data.specs.declared.deals.Piece.{Piece}
use Rattle.storage_data.specs.Runs.{place_before, placed, run_of, with_value, with_piece, pieces_for, is_next, one_run, behind, all_behind, as_runs, runs_of, initial_of}
use Rattle.laws_programs.proofs.Storage.EveryLaws.{every_inserted}
use Rattle.fx_lists.proofs.Every.{Every, every_turned}

pub record Within (end : ℕ) (offset count : ℕ) : Type 0 where
  pub some : 0 < count
  pub within : offset + count ≤ end

-- and this holds besides
abbrev pub RunFits : ℕ → Type 0 → InitialRun → Type 0
RunFits end Q r = Within end r.offset r.count × Q

-- of the pieces of the name at a place
abbrev pub PieceFits : ℕ → ℕ → Type 0 → Piece → Type 0
PieceFits n end Q p = p.place ≡ n → Within end p.offset p.count × Q

valued_fits : (end : ℕ) (Q : Type 0) (p : Piece) (v : Option Constant) (rs : List InitialRun) → Within end p.offset p.count × Q → Every (RunFits end Q) rs → Every (RunFits end Q) (with_value p v rs)
valued_fits end Q p None rs w h = h
valued_fits end Q p (Some c) rs w h = every_inserted (RunFits end Q) rs (place_before 0 (run_of p c) rs) (run_of p c) h w

piece_fits : (n end : ℕ) (Q : Type 0) (p : Piece) (rs : List InitialRun) → PieceFits n end Q p → Every (RunFits end Q) rs → Every (RunFits end Q) (with_piece n p rs)
piece_fits n end Q p rs w h = go (nat_eq p.place n) refl
  where
    go : (b : Bool) → nat_eq p.place n ≡ b → Every (RunFits end Q) (if b then with_value p p.value rs else rs)
    go true e = valued_fits end Q p p.value rs (w (eqb-true p.place n e)) h
    go false e = h

pieces_fit : (n end : ℕ) (Q : Type 0) (ps : List Piece) (rs : List InitialRun) → Every (PieceFits n end Q) ps → Every (RunFits end Q) rs → Every (RunFits end Q) (pieces_for n ps rs)
pieces_fit n end Q [] rs w h = h
pieces_fit n end Q (p ∷ ps) rs w h = pieces_fit n end Q ps (with_piece n p rs) w.1 (piece_fits n end Q p rs w.0 h)

behind_fits : (end : ℕ) (Q : Type 0) (r : InitialRun) (qs : List InitialRun) → RunFits end Q r → Every (RunFits end Q) qs → Every (RunFits end Q) (behind r qs)
behind_fits end Q r [] w h = (w, tt)
behind_fits end Q r (q ∷ qs) w h = go (is_next q r) refl
  where
    go : (b : Bool) → is_next q r ≡ b → Every (RunFits end Q) (if b then one_run q r ∷ qs else r ∷ q ∷ qs)
    go true e =
        let next = eqb-true (q.offset + q.count) r.offset (and_parts (nat_eq (q.offset + q.count) r.offset) (int_eq q.value r.value) e).0 in
        let one = h.0.0.some in
        let last = w.0.within in
        ((record { some = omega (arith, one); within = omega (arith, next, last) }, w.1), h.1)
    go false e = (w, h)

all_fit : (end : ℕ) (Q : Type 0) (rs qs : List InitialRun) → Every (RunFits end Q) rs → Every (RunFits end Q) qs → Every (RunFits end Q) (all_behind rs qs)
all_fit end Q [] qs h k = k
all_fit end Q (r ∷ rs) qs h k = all_fit end Q rs (behind r qs) h.1 (behind_fits end Q r qs h.0 k)

pub runs_fit : (n end : ℕ) (Q : Type 0) (initial : Bool) (ps : List Piece) → Every (PieceFits n end Q) ps → Every (RunFits end Q) (initial_of initial n ps)
runs_fit n end Q true ps w = every_turned (RunFits end Q) (all_behind (pieces_for n ps []) []) (all_fit end Q (pieces_for n ps []) [] (pieces_fit n end Q ps [] w tt) tt)
runs_fit n end Q false ps w = tt
