-- The first statement of a module.
use Rattle.std.proofs.Common.{◌≡◌, ℕ, ◌≤◌, Bool, true, false, List, [], refl, sym, ◌∙◌, arith}
use Rattle.std.specs.Prelude.{Option, Some, None}
use Rattle.f77_statements.specs.Phrases.{PhraseTree, program, subroutine, function, specification, simple, logical_if, block_if, else_if, else_part, end_if, do_head, while_head, end_do, end_module}
use Rattle.fx_lists.specs.declared.code.Code.{Code}
use Rattle.fx_lists.specs.declared.refusal.Refusal.{Refusal}
use Rattle.fx_lists.specs.Refusals.{refuse_if}
use Rattle.f77_structure.specs.Blocks.{parse_executable}
use Rattle.f77_structure.specs.Order.{check_next, nothing_ordered}
use Rattle.f77_structure.specs.Steps.{ended_if, by_role, nothing_open}
use Rattle.f77_parser.specs.Roles.{role_of}
use Rattle.f77_parser.specs.Ends.{ends_module}
use Rattle.f77_parser.specs.Statements.{StatementTree, mark_of}
use Rattle.f77_parser.specs.SoFar.{spot, add_spot, add_executable, add_logical_if, open_block, add_while}
use Rattle.f77_parser.specs.Building.{add_statement, no_statements}
use Rattle.roundtrip_programs.proofs.ModuleTexts.Calm.{true-false, stood-found}
use Rattle.roundtrip_programs.proofs.Written.Beginning.{Start, with_title, with_decl, with_statement, part_at, Begins, Leads}
use Rattle.fx_lists.proofs.Refused.{none_refused}

-- what a module begins with, and the first spot is its own
pub record Starts (s : StatementTree) : Type 0 where
  pub start : Start
  pub begins : Begins start (add_statement s no_statements) (check_next (mark_of s) nothing_ordered).count
  pub leads : Leads (spot (part_at start) s.first s.comments) (add_statement s no_statements).spots

stray : (line : ℕ) (code : Code) (found : Option Refusal) → refuse_if true line code found ≡ None → ⊥
stray line code found h = true-false (none_refused true line code found h).0

one-least : 1 ≤ 1
one-least = omega arith

two-least : 1 ≤ 2
two-least = omega arith

pub starts : (f : ℕ) (label : Option ℕ) (deep : Bool) (cs : List (List ℕ)) (phrase : PhraseTree) → ends_module phrase ≡ false → (by_role (role_of phrase) label f nothing_open).found ≡ None
    → Starts (record { first = f; label = label; deep = deep; comments = cs; phrase = phrase })
unfolding add_spot add_executable add_logical_if open_block add_while check_next parse_executable
starts f label deep cs (program n) e h = record { start = with_title; begins = refl; leads = refl }
starts f label deep cs (subroutine n ds) e h = record { start = with_title; begins = refl; leads = refl }
starts f label deep cs (function form n ds) e h = record { start = with_title; begins = refl; leads = refl }
starts f label deep cs (specification d) e h = record { start = with_decl; begins = record { bare = refl; some = (d, [], refl) }; leads = refl }
starts f None deep cs (simple w) e h = record { start = with_statement; begins = record { bare = refl; none = refl; first = refl; counted = one-least }; leads = refl }
starts f (Some l) deep cs (simple w) e h = record { start = with_statement; begins = record { bare = refl; none = refl; first = refl; counted = one-least }; leads = refl }
starts f None deep cs (logical_if t w) e h = record { start = with_statement; begins = record { bare = refl; none = refl; first = refl; counted = two-least }; leads = refl }
starts f (Some l) deep cs (logical_if t w) e h = record { start = with_statement; begins = record { bare = refl; none = refl; first = refl; counted = two-least }; leads = refl }
starts f None deep cs (block_if t) e h = record { start = with_statement; begins = record { bare = refl; none = refl; first = refl; counted = one-least }; leads = refl }
starts f (Some l) deep cs (block_if t) e h = record { start = with_statement; begins = record { bare = refl; none = refl; first = refl; counted = one-least }; leads = refl }
starts f label deep cs (else_if t) e h = absurd (stray _ _ _ h)
starts f label deep cs else_part e h = absurd (stray _ _ _ h)
starts f label deep cs end_if e h = absurd (stray _ _ _ (sym (stood-found label (ended_if f nothing_open)) ∙ h))
starts f None deep cs (do_head d) e h = record { start = with_statement; begins = record { bare = refl; none = refl; first = refl; counted = one-least }; leads = refl }
starts f (Some l) deep cs (do_head d) e h = record { start = with_statement; begins = record { bare = refl; none = refl; first = refl; counted = one-least }; leads = refl }
starts f None deep cs (while_head l t) e h = record { start = with_statement; begins = record { bare = refl; none = refl; first = refl; counted = one-least }; leads = refl }
starts f (Some k) deep cs (while_head l t) e h = record { start = with_statement; begins = record { bare = refl; none = refl; first = refl; counted = one-least }; leads = refl }
starts f None deep cs end_do e h = absurd (stray _ _ _ h)
starts f (Some l) deep cs end_do e h = absurd (stray _ _ _ h)
starts f label deep cs end_module e h = cc
