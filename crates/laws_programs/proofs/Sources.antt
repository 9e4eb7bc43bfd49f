-- The modules of lines are built of statements that the grammar gives, without a fault.
use Rattle.std.proofs.Common.{◌≡◌, ℕ, List, [], ◌∷◌, ◌++◌, refl, subst, Bool, true, false}
use Rattle.std.specs.Prelude.{Option, Some, None, Result, Ok, Err, if◌then◌else◌}
use Rattle.fixed_form.specs.declared.line.Line.{Line}
use Rattle.fixed_form.specs.declared.line.Lines.{Lines}
use Rattle.f77_ast.specs.DeclTrees.{ParsedTree}
use Rattle.f77_statements.specs.declared.refusal.Cause.{Cause}
use Rattle.f77_statements.specs.Phrases.{PhraseTree, program, subroutine, function, specification, simple, logical_if, block_if, else_if, else_part, end_if, do_head, while_head, end_do, end_module}
use Rattle.f77_statements.specs.Statements.{phrase_of}
use Rattle.fx_lists.specs.declared.refusal.Refusal.{Refusal}
use Rattle.f77_structure.specs.Checks.{fault_of}
use Rattle.f77_structure.specs.Depth.{is_deep}
use Rattle.f77_structure.specs.Lists.{is_none_of}
use Rattle.f77_parser.specs.Gives.{Refused, and_then}
use Rattle.f77_parser.specs.Statements.{StatementTree, read_as, all_read, marks_of}
use Rattle.f77_parser.specs.Building.{build_module}
use Rattle.f77_parser.specs.Ends.{ends_module}
use Rattle.f77_parser.specs.Modules.{module_fault, statements_in, closing_at, unless_faulty, modules_from, parse_of}
use Rattle.roundtrip_programs.specs.Statements.Formed.{Each}
use Rattle.roundtrip_programs.specs.Statements.Phrased.{IsPhrase}
use Rattle.roundtrip_programs.specs.Statements.Written.{as_written}
use Rattle.roundtrip_programs.proofs.Statements.Phrases.{statements_read_back}
use Rattle.roundtrip_programs.specs.ModuleTexts.Cards.{statements_of}
use Rattle.roundtrip_programs.specs.ModuleTexts.Numbered.{IsWell}
use Rattle.roundtrip_programs.specs.ModuleTexts.ModuleLaws.{MaybeLabel, IsStatement, IsRead}
use Rattle.roundtrip_programs.proofs.ModuleTexts.Each.{Each-append, each-map}
use Rattle.roundtrip_programs.proofs.ModuleTexts.Kept.{Kind, Stated, Held, all_held}
use Rattle.roundtrip_programs.proofs.ModuleTexts.Built.{built_well}
use Rattle.roundtrip_programs.proofs.Assigned.{no-fault, read-well}
use Rattle.roundtrip_programs.proofs.Written.Read.{all-formed, only-end as ends-module}
use Rattle.roundtrip_programs.proofs.ModuleTexts.Cards.{Any as AnyLabel}
use Rattle.laws_programs.specs.Programs.{AreLabelled}

-- ---- what is built

-- a module that is numbered in the order of the text, and each statement of which the grammar gives
pub record IsBuilt (p : ParsedTree) : Type 0 where
  pub well : IsWell p.module_read
  pub formed : Each (Held AnyLabel IsPhrase) (statements_of p.module_read)

written : (p : PhraseTree) → IsPhrase p → IsPhrase (as_written p)
written (program n) h = h
written (subroutine n ds) h = h
written (function form n ds) h = h
written (specification d) h = h
written (simple w) h = h
written (logical_if e w) h = h
written (block_if e) h = h
written (else_if e) h = h
written else_part h = h
written end_if h = h
written (do_head d) h = record { index = h.index; first = h.first; last = h.last; step = h.step }
written (while_head l e) h = h
written end_do h = h
written end_module h = h

kind : Kind AnyLabel IsPhrase IsPhrase
kind = record {
  bare = tt;
  formed = λ p h. h;
  written = written;
  first = λ e h. h;
  otherwise = tt;
  end_branches = tt;
  end_loop = tt;
  end_all = tt;
  labelled = tt;
}

pub is_built : (closing : List (List ℕ)) (begun : List StatementTree) (s : StatementTree) → s.phrase ≡ end_module → Each IsStatement (begun ++ s ∷ []) → fault_of (marks_of (begun ++ s ∷ [])) ≡ None → IsBuilt (build_module closing (begun ++ s ∷ []))
is_built closing begun s e i f = record {
  well = built_well closing begun s e i f;
  formed = all_held AnyLabel IsPhrase IsPhrase kind closing begun s e (each-map IsStatement (Stated AnyLabel IsPhrase) (begun ++ s ∷ []) (λ x h. (tt, h)) i) f;
}

-- ---- statements

read-by : (l : Line) (r : Result PhraseTree Cause) (f : StatementTree → Result (List StatementTree) Refused) (ss : List StatementTree) → MaybeLabel l.label → phrase_of l.body ≡ r → and_then (read_as l r) f ≡ Ok ss
    → ((s : StatementTree) → IsRead s → f s ≡ Ok ss → Each IsRead ss) → Each IsRead ss
read-by l (Ok p) f ss n e h g =
    g (record { first = l.first; label = l.label; deep = is_deep l.body; comments = l.comments; phrase = p }) (record { label = n; phrase = statements_read_back.formed l.body p e }) h
read-by l (Err c) f ss n e h g = cc

-- the statements of lines with labels as reading gives them
all-labelled : (ls : List Line) (done ss : List StatementTree) → AreLabelled ls → Each IsRead done → all_read done ls ≡ Ok ss → Each IsRead ss
all-labelled [] done ss n d h = let same : done ≡ ss = cc in subst (Each IsRead) same d
all-labelled (l ∷ ls) done ss n d h =
    read-by l (phrase_of l.body) (λ s. all_read (done ++ s ∷ []) ls) ss n.first refl h
    (λ s i g. all-labelled ls (done ++ s ∷ []) ss n.others (Each-append IsRead done (s ∷ []) d (record { first = i; others = tt })) g)

-- ---- modules

-- of a module that goes up to its END, of such statements, without a fault
abbrev pub OfAll : (StatementTree → Type 0) → (ParsedTree → Type 0) → Type 0
OfAll Q P = (closing : List (List ℕ)) (begun : List StatementTree) (s : StatementTree) → s.phrase ≡ end_module → Each Q (begun ++ s ∷ []) → fault_of (marks_of (begun ++ s ∷ [])) ≡ None → P (build_module closing (begun ++ s ∷ []))

-- of statements that the grammar gives
abbrev pub OfBuilt : (ParsedTree → Type 0) → Type 0
OfBuilt P = OfAll IsStatement P

-- and with labels as reading gives them
abbrev pub OfRead : (ParsedTree → Type 0) → Type 0
OfRead P = OfAll IsRead P

module _ (Q : StatementTree → Type 0) (P : ParsedTree → Type 0) (one : OfAll Q P) where
  faultless-on : (f : Option Refusal) (q : ParsedTree) (k : ParsedTree → Result (List ParsedTree) Refused) (ps : List ParsedTree) → and_then (unless_faulty f q) k ≡ Ok ps
      → (f ≡ None → k q ≡ Ok ps → Each P ps) → Each P ps
  faultless-on None q k ps h g = g refl h
  faultless-on (Some f) q k ps h g = cc

  choice-on : (b : Bool) (x y : Result (List ParsedTree) Refused) (ps : List ParsedTree) → (if b then x else y) ≡ Ok ps
      → (b ≡ true → x ≡ Ok ps → Each P ps) → (y ≡ Ok ps → Each P ps) → Each P ps
  choice-on true x y ps h f g = f refl h
  choice-on false x y ps h f g = g h

  all-go : (closing : List (List ℕ)) (ss : List StatementTree) (done ps : List ParsedTree) (begun : List StatementTree) → Each P done → Each Q begun → Each Q ss
      → modules_from closing done begun ss ≡ Ok ps → Each P ps
  all-go closing [] done ps begun d b i h = let same : done ≡ ps = cc in subst (Each P) same d
  all-go closing (s ∷ ss) done ps begun d b i h =
      let whole = begun ++ s ∷ [] in
      let own = closing_at (is_none_of ss) closing in
      let more : Each Q whole = Each-append Q begun (s ∷ []) b (record { first = i.first; others = tt }) in
      choice-on (ends_module s.phrase)
      (and_then (unless_faulty (module_fault whole) (build_module own whole)) (λ p. modules_from closing (done ++ p ∷ []) [] ss)) (modules_from closing done whole ss) ps h
      (λ e g. faultless-on (module_fault whole) (build_module own whole) (λ p. modules_from closing (done ++ p ∷ []) [] ss) ps g
      (λ f x. all-go closing ss (done ++ build_module own whole ∷ []) ps []
      (Each-append P done (build_module own whole ∷ []) d (record { first = one own begun s (ends-module s.phrase e) more (no-fault whole f).structure; others = tt })) tt i.others x))
      (λ g. all-go closing ss done ps whole d more i.others g)

-- ---- lines

module _ (Q : StatementTree → Type 0) (P : ParsedTree → Type 0) (one : OfAll Q P) where
  then-on : (r : Result (List StatementTree) Refused) (closing : List (List ℕ)) (ps : List ParsedTree) → ((ss : List StatementTree) → r ≡ Ok ss → Each Q ss)
      → and_then r (λ ss. modules_from closing [] [] ss) ≡ Ok ps → Each P ps
  then-on (Ok ss) closing ps i h = all-go Q P one closing ss [] ps [] tt tt (i ss refl) h
  then-on (Err e) closing ps i h = cc

-- then it holds of the modules of lines
pub all_of : (P : ParsedTree → Type 0) → OfBuilt P → (lines : Lines) (ps : List ParsedTree) → parse_of lines ≡ Ok ps → Each P ps
unfolding parse_of
all_of P one lines ps h = then-on IsStatement P one (statements_in lines.lines) lines.closing ps (λ ss e. all-formed lines.lines [] ss tt (read-well lines.lines ss e).all) h

-- of lines that have labels as reading gives them
pub all_read_of : (P : ParsedTree → Type 0) → OfRead P → (lines : Lines) → AreLabelled lines.lines → (ps : List ParsedTree) → parse_of lines ≡ Ok ps → Each P ps
unfolding parse_of
all_read_of P one lines n ps h = then-on IsRead P one (statements_in lines.lines) lines.closing ps (λ ss e. all-labelled lines.lines [] ss n tt (read-well lines.lines ss e).all) h

pub all_built : (lines : Lines) (ps : List ParsedTree) → parse_of lines ≡ Ok ps → Each IsBuilt ps
all_built lines ps h = all_of IsBuilt is_built lines ps h
