-- The types that names have by their first letters (ANSI X3.9-1978 §4.1.2, §8.5).
use Rattle.std.specs.Prelude.{ℕ, ◌+◌, ◌-◌, Bool, true, false, ◌&&◌, nat_le, List, [], ◌∷◌, Option, Some, None, if◌then◌else◌, slice_get}
use Rattle.std.specs.List.{list_any}
use Rattle.f77_ast.specs.declared.decl.Scalar.{Scalar}
use Rattle.f77_ast.specs.declared.decl.Scalar.TheVariants as scalar
use Rattle.f77_ast.specs.declared.decl.Letters.{Letters}
use Rattle.f77_ast.specs.declared.decl.ImplicitPart.{ImplicitPart}
use Rattle.f77_ast.specs.DeclTrees.{DeclTree}
use Rattle.f77_ast.specs.DeclTrees as decl
use Rattle.f77_names.specs.declared.kinds.Kind.{Kind}
use Rattle.f77_names.specs.declared.kinds.Kind.TheVariants.{Int, Log, Real}

abbrev pub kind_of_scalar : Scalar → Kind
kind_of_scalar scalar.Int = Int
kind_of_scalar scalar.Log = Log

abbrev pub is_in_range : ℕ → Letters → Bool
is_in_range c r = nat_le r.first c && nat_le c r.last

-- the type that a statement gives a letter, where it had one before; the last one counts
abbrev pub by_parts : ℕ → List ImplicitPart → Option Scalar → Option Scalar
by_parts c [] old = old
by_parts c (p ∷ ps) old = by_parts c ps (if list_any (is_in_range c) p.ranges then Some p.scalar else old)

abbrev pub by_implicit : ℕ → Option (List ImplicitPart) → Option Scalar → Option Scalar
by_implicit c None old = old
by_implicit c (Some ps) old = by_parts c ps old

abbrev pub by_decl : ℕ → DeclTree → Option Scalar → Option Scalar
by_decl c (decl.implicit ps) old = by_implicit c ps old
by_decl c (decl.integer es) old = old
by_decl c (decl.logical es) old = old
by_decl c (decl.dimension es) old = old
by_decl c (decl.parameter ss) old = old
by_decl c (decl.common cs) old = old
by_decl c (decl.equivalence gs) old = old
by_decl c (decl.save is) old = old
by_decl c (decl.initial gs) old = old

-- the type that IMPLICIT statements give a letter
abbrev pub implied_type : ℕ → List DeclTree → Option Scalar → Option Scalar
implied_type c [] old = old
implied_type c (d ∷ ds) old = implied_type c ds (by_decl c d old)

abbrev pub is_missing : Option (List ImplicitPart) → Bool
is_missing None = true
is_missing (Some ps) = false

-- IMPLICIT NONE
abbrev pub is_none_decl : DeclTree → Bool
is_none_decl (decl.implicit ps) = is_missing ps
is_none_decl (decl.integer es) = false
is_none_decl (decl.logical es) = false
is_none_decl (decl.dimension es) = false
is_none_decl (decl.parameter ss) = false
is_none_decl (decl.common cs) = false
is_none_decl (decl.equivalence gs) = false
is_none_decl (decl.save is) = false
is_none_decl (decl.initial gs) = false

abbrev pub default_kind : Bool → ℕ → Kind
default_kind none c = if none then Real else if nat_le 73 c && nat_le c 78 then Int else Real

abbrev pub kind_or : Kind → Option Scalar → Kind
kind_or k None = k
kind_or k (Some s) = kind_of_scalar s

-- without IMPLICIT the letters I to N are INTEGER and the others REAL; under IMPLICIT NONE all are
abbrev pub letter_kind : List DeclTree → ℕ → Kind
letter_kind ds c = kind_or (default_kind (list_any is_none_decl ds) c) (implied_type c ds None)

abbrev pub kinds_from : List DeclTree → ℕ → List ℕ → List Kind
kinds_from ds c [] = []
kinds_from ds c (n ∷ ns) = letter_kind ds (c + n) ∷ kinds_from ds c ns

abbrev pub alphabet : List ℕ
alphabet =
    0 ∷ 1 ∷ 2 ∷ 3 ∷ 4 ∷ 5 ∷ 6 ∷ 7 ∷ 8 ∷ 9 ∷ 10 ∷ 11 ∷ 12 ∷ 13 ∷ 14 ∷ 15 ∷ 16 ∷ 17 ∷ 18 ∷ 19 ∷ 20 ∷ 21 ∷ 22 ∷ 23 ∷ 24 ∷ 25 ∷ []

-- those of the letters A to Z
abbrev pub kinds_of : List DeclTree → List Kind
kinds_of ds = kinds_from ds 65 alphabet

abbrev pub real_unless : Option Kind → Kind
real_unless None = Real
real_unless (Some k) = k

abbrev pub kind_of_letter : List Kind → ℕ → Kind
kind_of_letter ks c = if nat_le 65 c then real_unless (slice_get ks (c - 65)) else Real

-- by its first letter
abbrev pub kind_of_name : List Kind → List ℕ → Kind
kind_of_name ks [] = Real
kind_of_name ks (c ∷ cs) = kind_of_letter ks c
