-- Numbers of subscripts, one after another.
use Rattle.std.proofs.Common.{◌≡◌, ◌≤◌, Bool, List, [], ◌∷◌, ◌++◌, length, Option, Some, None, refl, sym, ap, ℤ, arith, append_assoc, append-nil}
use Rattle.f77_ast.proofs.Plainly.{expr_lists}
use Rattle.f77_ast.specs.declared.constant.Constant.TheVariants.{Int, Log}
use Rattle.f77_ast.specs.declared.constant.ConstantValue.TheVariants.{Is, Faults, Varies}
use Rattle.f77_ast.specs.Places.{position}
use Rattle.f77_checks.specs.declared.sizes.Size.{Size}
use Rattle.f77_checks.specs.Sizes.{dims_tree}
use Rattle.storage_data.specs.Items.{with_number}

-- ---- numbers

abbrev pub behind : List ℤ → Option (List ℤ) → Option (List ℤ)
behind ms None = None
behind ms (Some ns) = Some (ms ++ ns)

pub behind-int : (ms : List ℤ) (n : ℤ) (o : Option (List ℤ)) → behind ms (with_number (Is (Int n)) o) ≡ behind (ms ++ n ∷ []) o
behind-int ms n None = refl
behind-int ms n (Some ns) = ap Some (sym (append_assoc ms (n ∷ []) ns))

pub behind-log : (ms : List ℤ) (b : Bool) (o : Option (List ℤ)) → behind ms (with_number (Is (Log b)) o) ≡ None
behind-log ms b None = refl
behind-log ms b (Some ns) = refl

pub behind-faults : (ms : List ℤ) (o : Option (List ℤ)) → behind ms (with_number Faults o) ≡ None
behind-faults ms None = refl
behind-faults ms (Some ns) = refl

pub behind-varies : (ms : List ℤ) (o : Option (List ℤ)) → behind ms (with_number Varies o) ≡ None
behind-varies ms None = refl
behind-varies ms (Some ns) = refl

pub behind-end : (ms : List ℤ) → behind ms (Some []) ≡ Some ms
behind-end ms = ap Some (append-nil ms)

pub ruleset number_steps = (behind-int, behind-log, behind-faults, behind-varies, behind-end, expr_lists)

-- ---- subscripts that are missing

pub position_empty : (ss : List Size) (ns : List ℤ) → 1 ≤ length ss → length ns ≡ 0 → None ≡ position (dims_tree ss) ns
position_empty [] ns h e = absurd (omega arith)
position_empty (s ∷ ss) [] h e = refl
position_empty (s ∷ ss) (n ∷ ns) h e = absurd (omega arith)

pub position_none : (ss : List Size) (ns : List ℤ) → length ss ≡ 0 → 1 ≤ length ns → None ≡ position (dims_tree ss) ns
position_none [] [] e h = absurd (omega arith)
position_none [] (n ∷ ns) e h = refl
position_none (s ∷ ss) ns e h = absurd (omega arith)

pub ruleset position_steps = (position_empty, position_none)
