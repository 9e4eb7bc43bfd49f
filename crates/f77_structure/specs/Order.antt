-- The order of the statements of a module, how many there are, and their labels.
use Rattle.std.specs.Prelude.{ℕ, ◌+◌, Bool, true, false, ◌&&◌, nat_eq, nat_lt, nat_le, List, [], ◌∷◌, ◌++◌, Option, Some, None}
use Rattle.std.specs.List.{list_any}
use Rattle.fx_lists.specs.declared.code.Code.TheVariants.{StrayPart, LabelTwice, TooManyStatements, TooDeep}
use Rattle.fx_lists.specs.declared.refusal.Refusal.{Refusal}
use Rattle.f77_structure.specs.declared.mark.Role.{Role}
use Rattle.f77_structure.specs.declared.mark.Role.TheVariants.{Program, Subroutine, Specification, Plain, LogicalIf, BlockIf, ElseIf, Else, EndIf, Do, EndDo, End}
use Rattle.f77_structure.specs.declared.mark.Mark.{Mark}
use Rattle.f77_structure.specs.declared.order.Order.{Order}
use Rattle.fx_lists.specs.Refusals.{refuse_if}
use Rattle.f77_structure.specs.Marks.{statements_in, label_in, returns_in}

-- a module is a main program unless it begins with SUBROUTINE
abbrev pub is_main_after : Bool → Bool → Role → Bool
is_main_after begun main Program = main
is_main_after begun main Subroutine = begun && main
is_main_after begun main Specification = main
is_main_after begun main (Plain a) = main
is_main_after begun main (LogicalIf a) = main
is_main_after begun main BlockIf = main
is_main_after begun main ElseIf = main
is_main_after begun main Else = main
is_main_after begun main EndIf = main
is_main_after begun main (Do t) = main
is_main_after begun main EndDo = main
is_main_after begun main End = main

-- a heading that is not first, a specification behind an executable statement, or a RETURN in a main program
abbrev pub is_out_of_order : Bool → Bool → ℕ → Role → Bool
is_out_of_order begun main count Program = begun
is_out_of_order begun main count Subroutine = begun
is_out_of_order begun main count Specification = nat_lt 0 count
is_out_of_order begun main count (Plain a) = main && returns_in (Plain a)
is_out_of_order begun main count (LogicalIf a) = main && returns_in (LogicalIf a)
is_out_of_order begun main count BlockIf = main && returns_in BlockIf
is_out_of_order begun main count ElseIf = main && returns_in ElseIf
is_out_of_order begun main count Else = main && returns_in Else
is_out_of_order begun main count EndIf = main && returns_in EndIf
is_out_of_order begun main count (Do t) = main && returns_in (Do t)
is_out_of_order begun main count EndDo = main && returns_in EndDo
is_out_of_order begun main count End = main && returns_in End

abbrev pub has_label : ℕ → List ℕ → Bool
has_label l ls = list_any (λ x. nat_eq x l) ls

-- the label of an executable statement
abbrev pub keep_label : ℕ → Option ℕ → Order → Order
keep_label line None o = o
keep_label line (Some l) o = record o {
  labels = o.labels ++ l ∷ [];
  found = refuse_if (has_label l o.labels) line LabelTwice o.found;
}

-- a module may have 4,096 executable statements: the next is at the line where their number goes past that
abbrev pub passes_most : ℕ → ℕ → Bool
passes_most count new = nat_le count 4096 && nat_lt 4096 new

abbrev pub counted : Mark → Order → Order
counted m o = record {
  begun = true;
  main = is_main_after o.begun o.main m.role;
  count = o.count + statements_in m;
  labels = o.labels;
  found =
      refuse_if (passes_most o.count (o.count + statements_in m)) m.line TooManyStatements
      (refuse_if (is_out_of_order o.begun o.main o.count m.role) m.line StrayPart
      (refuse_if m.deep m.line TooDeep o.found));
}

-- one statement more
unfoldable pub check_next : Mark → Order → Order
check_next m o = counted m (keep_label m.line (label_in m) o)

-- these statements more
abbrev pub all_ordered : List Mark → Order → Order
all_ordered [] o = o
all_ordered (m ∷ ms) o = all_ordered ms (check_next m o)

-- before the first statement
abbrev pub nothing_ordered : Order
nothing_ordered = record { begun = false; main = true; count = 0; labels = []; found = None }

-- the first fault of the order, the number and the labels of the statements
abbrev pub order_of : List Mark → Option Refusal
order_of ms = (all_ordered ms nothing_ordered).found
