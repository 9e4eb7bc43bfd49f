-- The transformer of a DO, and what holds at its iterations and after it. Rows of which one side has no form are left out, and where the step is no
-- constant there are no rows.
use Rattle.std.specs.Prelude.{ℕ, List, [], ◌∷◌, ◌++◌, Option, Some, None, IfSome, Bool, false, not, if◌then◌else◌, ℤ, pos, int_lt}
use Rattle.std.specs.List.{list_all}
use Rattle.affine_systems.specs.declared.row.Var.{Var}
use Rattle.affine_systems.specs.declared.row.Var.TheVariants.{Cell, Exit}
use Rattle.affine_systems.specs.declared.row.Term.{Term}
use Rattle.affine_systems.specs.declared.row.Row.{Row}
use Rattle.affine_systems.specs.declared.row.System.{System}
use Rattle.affine_systems.specs.Terms.{term, number}
use Rattle.affine_systems.specs.Given.{Fits}
use Rattle.hull_projection.specs.Hull.{hull}
use Rattle.hull_projection.specs.Clean.{clean}
use Rattle.transformer_algebra.specs.Renaming.{push_rows}
use Rattle.affine_forms.specs.declared.affine.Affine.{Affine}
use Rattle.affine_forms.specs.Forms.{affine, IsSmallForm}
use Rattle.affine_forms.specs.Comparisons.{var_form, at_most_row, below_row}
use Rattle.affine_forms.specs.Conditions.{no_rows}
use Rattle.transformer_algebra.specs.declared.transformer.Transformer.{Transformer}
use Rattle.transformer_algebra.specs.declared.loop_parts.LoopParts.{LoopParts}
use Rattle.transformer_algebra.specs.Cells.{has, others}
use Rattle.transformer_algebra.specs.Transformers.{transformer, exit_system, followed, without, apply, equals, iterate}

-- its forms are small, and the body's system is one that calls take
abbrev pub LoopFits : LoopParts → Type 0
LoopFits l = IfSome l.first IsSmallForm × IfSome l.last IsSmallForm × Fits l.body.system

-- ---- the index

abbrev pub own_cells : LoopParts → List ℕ
own_cells l = if l.tracked then l.index ∷ [] else []

-- nothing is known of an index that is not tracked
abbrev pub index_becomes : LoopParts → Option Affine → Transformer
index_becomes l f = transformer (own_cells l) [] (if l.tracked then exit_system l.index f else no_rows)

abbrev pub if_counted : Option ℤ → Option Affine → Option Affine
if_counted None f = None
if_counted (Some s) f = f

abbrev pub stepped : ℕ → Option ℤ → Option Affine
stepped i None = None
stepped i (Some s) = Some (affine (term (Cell i) (pos 1) ∷ []) s)

abbrev pub start_form : LoopParts → Option Affine
start_form l = if_counted l.step l.first

abbrev pub next_form : LoopParts → Option Affine
next_form l = stepped l.index l.step

-- I' == first
abbrev pub start : LoopParts → Transformer
start l = index_becomes l (start_form l)

-- I' == I + step
abbrev pub next : LoopParts → Transformer
next l = index_becomes l (next_form l)

-- ---- the range

abbrev pub goes_up : ℤ → Bool
goes_up s = int_lt (pos 0) s

-- f <= g upwards, g <= f downwards
abbrev pub within_row : ℤ → Affine → Affine → Row
within_row s f g = if goes_up s then at_most_row f g else at_most_row g f

-- g + 1 <= f upwards, f + 1 <= g downwards
abbrev pub beyond_row : ℤ → Affine → Affine → Row
beyond_row s f g = if goes_up s then below_row g f else below_row f g

abbrev pub within_rows : Option ℤ → Option Affine → Option Affine → List Row
within_rows (Some s) (Some f) (Some g) = within_row s f g ∷ []
within_rows (Some s) (Some f) None = []
within_rows (Some s) None g = []
within_rows None f g = []

abbrev pub beyond_rows : Option ℤ → Option Affine → Option Affine → List Row
beyond_rows (Some s) (Some f) (Some g) = beyond_row s f g ∷ []
beyond_rows (Some s) (Some f) None = []
beyond_rows (Some s) None g = []
beyond_rows None f g = []

-- of a variable that stands for the index, where that is tracked
abbrev pub index_form : LoopParts → Var → Option Affine
index_form l v = if l.tracked then Some (var_form v) else None

abbrev pub guard : LoopParts → List Row
guard l = within_rows l.step l.first l.last

abbrev pub unguard : LoopParts → List Row
unguard l = beyond_rows l.step l.first l.last

abbrev pub inside : LoopParts → Var → List Row
inside l v = within_rows l.step (index_form l v) l.last

abbrev pub beyond_last : LoopParts → Var → List Row
beyond_last l v = beyond_rows l.step (index_form l v) l.last

-- ---- the transformer

abbrev pub with_rows : Transformer → List Row → Transformer
with_rows t rs = transformer t.cells t.foreign (push_rows t.system rs)

-- one iteration
abbrev pub iteration : LoopParts → Transformer
iteration l = followed l.body (next l)

-- in what follows t is the iteration
abbrev pub zero_iterations : LoopParts → Transformer → System
zero_iterations l t = push_rows (start l).system (unguard l ++ equals (others t.cells (start l).cells))

-- up to the last iteration
abbrev pub first_iterations : LoopParts → Transformer → Transformer
first_iterations l t = with_rows (followed (with_rows (start l) (guard l)) (iterate t)) (inside l (Exit l.index))

abbrev pub some_iterations : LoopParts → Transformer → Transformer
some_iterations l t = with_rows (followed (first_iterations l t) t) (beyond_last l (Exit l.index))

abbrev pub counted_by : Option ℤ → LoopParts → Transformer → System
counted_by None l t = no_rows
counted_by (Some s) l t = hull (zero_iterations l t) (some_iterations l t).system

abbrev pub counted_system : LoopParts → Transformer → System
counted_system l t = counted_by l.step l t

abbrev pub loop_transformer : LoopParts → Transformer → Transformer
loop_transformer l t = transformer t.cells t.foreign (counted_system l t)

-- ---- what holds

abbrev pub terms_stay : List ℕ → List Term → Bool
terms_stay cs ts = list_all (λ (t : Term). not (has cs (number t.var))) ts

-- there is a form, and none of its cells is one of these
abbrev pub stays : List ℕ → Option Affine → Bool
stays cs None = false
stays cs (Some f) = terms_stay cs f.terms

-- with these rows, where the last value has a form of which no cell changes
abbrev pub if_stays : LoopParts → Transformer → System → List Row → System
if_stays l t s rs = if stays t.cells l.last then push_rows s rs else s

-- before the first iteration
abbrev pub before_iterations : LoopParts → System → System
before_iterations l p = apply (start l) (push_rows p (guard l))

abbrev pub counted_iteration : LoopParts → Transformer → System → System
counted_iteration l t p = clean (if_stays l t (apply (iterate t) (before_iterations l p)) (inside l (Cell l.index)))

abbrev pub iteration_by : Option ℤ → LoopParts → Transformer → System → System
iteration_by None l t p = without t.cells p
iteration_by (Some s) l t p = counted_iteration l t p

-- at the beginning of each iteration
abbrev pub at_iteration : LoopParts → Transformer → System → System
at_iteration l t p = iteration_by l.step l t p

abbrev pub counted_end : LoopParts → Transformer → System → System → System
counted_end l t p q = hull (apply (start l) (push_rows p (unguard l))) (if_stays l t (apply (next l) q) (beyond_last l (Cell l.index)))

abbrev pub end_by : Option ℤ → LoopParts → Transformer → System → System → System
end_by None l t p q = without t.cells p
end_by (Some s) l t p q = counted_end l t p q

-- after the loop, where q holds at the end of the body
abbrev pub after_loop : LoopParts → Transformer → System → System → System
after_loop l t p q = end_by l.step l t p q
