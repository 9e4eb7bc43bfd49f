-- The statements of a text, each by itself.
use Rattle.std.proofs.Common.{◌≡◌, ◌∙◌, ℕ, List, [], ◌∷◌, ◌++◌, map, Option, Result, Ok, Err, sym, ap, ap₂, append_assoc, append-nil}
use Rattle.fixed_form.specs.declared.line.Line.{Line}
use Rattle.f77_parser.specs.declared.refusal.ParseRefusal.{ParseRefusal}
use Rattle.f77_parser.specs.declared.refusal.ParseRefusal.TheVariants.{At, Memory}
use Rattle.f77_parser.specs.Gives.{Refused, Gives, and_then}
use Rattle.f77_parser.specs.Statements.{StatementTree, statement_tree, statement_of, all_read, with_read, those_read}
use Rattle.f77_parser.specs.References.{empty_call_fault}
use Rattle.f77_parser.specs.Modules.{unless_called, statements_in}

abbrev value_or : List StatementTree → Result (List StatementTree) Refused → List StatementTree
value_or d (Ok ss) = ss
value_or d (Err r) = d

abbrev refused_or : {A : Type 0} → Refused → Result A Refused → Refused
refused_or d (Ok a) = d
refused_or d (Err r) = r

-- where each statement is read, those that are read are all
read_behind : (ls : List Line) (done ss : List StatementTree) → all_read done ls ≡ Ok ss → done ++ those_read ls ≡ ss
read_behind [] done ss e = append-nil done ∙ ap (value_or done) e
read_behind (l ∷ ls) done ss e = go (statement_of l) e (λ s. read_behind ls (done ++ s ∷ []) ss)
  where
    go : (r : Result StatementTree Refused) → and_then r (λ s. all_read (done ++ s ∷ []) ls) ≡ Ok ss → ((s : StatementTree) → all_read (done ++ s ∷ []) ls ≡ Ok ss → (done ++ s ∷ []) ++ those_read ls ≡ ss) → done ++ with_read r (those_read ls) ≡ ss
    go (Ok s) h ih = sym (append_assoc done (s ∷ []) (those_read ls)) ∙ ih s h
    go (Err r) h ih = cc

pub all_those : (ls : List Line) (ss : List StatementTree) → all_read [] ls ≡ Ok ss → those_read ls ≡ ss
all_those ls ss e = read_behind ls [] ss e

pub read_whole : (ls : List Line) (ss : List StatementTree) (o : Option ℕ) → all_read [] ls ≡ Ok ss → o ≡ empty_call_fault ss → statements_in ls ≡ unless_called o (Ok ss)
read_whole ls ss o e f = ap₂ unless_called (ap empty_call_fault (all_those ls ss e) ∙ sym f) e

-- a refusal of one statement is one of them all
pub refused_all : (p : ParseRefusal) (r : Refused) → Gives statement_tree (Err p) (Err r) → Gives (map statement_tree) (Err p) (Err r)
refused_all (At line code keyword) r h = ap Err (ap (refused_or r) h)
refused_all Memory r h = tt
