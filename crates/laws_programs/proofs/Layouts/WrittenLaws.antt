-- The values of DATA with their repeats written out are those of its runs.
use Rattle.std.proofs.Common.{◌≡◌, ℕ, zero, suc, Bool, true, false, List, [], ◌∷◌, ◌++◌, map, Option, Some, None, refl, sym, ap, ◌∙◌}
use Rattle.std.specs.Prelude.{if◌then◌else◌, nat_eq}
use Rattle.std.proofs.lemmas.Bool.{eqb-true}
use Rattle.std.proofs.lemmas.List.{map-append}
use Rattle.f77_ast.specs.Trees.{ExprTree}
use Rattle.f77_ast.specs.DeclTrees.{DataValueTree}
use Rattle.storage_data.specs.declared.values.Run.{Run}
use Rattle.storage_data.specs.Initials.{literal_of, run_of, runs_of}
use Rattle.storage_data.specs.Initials as initials
use Rattle.laws_programs.specs.Layout.Layout.{repeated, times, written_out}
use Rattle.laws_programs.proofs.Layouts.DealLaws.{copies, values}

same_times : (o : Option ℕ) → initials.times o ≡ times o
same_times None = refl
same_times (Some n) = refl

copies_repeated : (n : ℕ) (e : ExprTree) → copies n (literal_of e) ≡ map literal_of (repeated n e)
copies_repeated zero e = refl
copies_repeated (suc n) e = ap (λ z. literal_of e ∷ z) (copies_repeated n e)

-- a value that is repeated no times is none
with_none : (r : Run) (rs : List Run) → values (if nat_eq r.count 0 then rs else r ∷ rs) ≡ copies r.count r.value ++ values rs
with_none r rs = go (nat_eq r.count 0) refl
  where
    go : (b : Bool) → nat_eq r.count 0 ≡ b → values (if b then rs else r ∷ rs) ≡ copies r.count r.value ++ values rs
    go true e = ap (λ n. copies n r.value ++ values rs) (sym (eqb-true r.count 0 e))
    go false e = refl

pub values_written : (vs : List DataValueTree) → values (runs_of vs) ≡ map literal_of (written_out vs)
values_written [] = refl
values_written (v ∷ vs) =
    with_none (run_of v) (runs_of vs)
    ∙ ap (λ z. z ++ values (runs_of vs)) (ap (λ n. copies n (literal_of v.value)) (same_times v.repeat) ∙ copies_repeated (times v.repeat) v.value)
    ∙ ap (λ z. map literal_of (repeated (times v.repeat) v.value) ++ z) (values_written vs)
    ∙ sym (map-append literal_of (repeated (times v.repeat) v.value) (written_out vs))
