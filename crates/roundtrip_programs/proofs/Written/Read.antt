-- A text that is read as one module: its statements go up to the END.
use Rattle.std.proofs.Common.{◌≡◌, ℕ, Bool, true, false, List, [], ◌∷◌, ◌++◌, refl, sym, subst, if◌then◌else◌}
use Rattle.std.specs.Prelude.{Option, Some, None, Result, Ok, Err}
use Rattle.fixed_form.specs.declared.line.Line.{Line}
use Rattle.f77_ast.specs.DeclTrees.{ParsedTree}
use Rattle.fx_lists.specs.declared.refusal.Refusal.{Refusal}
use Rattle.f77_statements.specs.declared.refusal.Cause.{Cause}
use Rattle.f77_statements.specs.Phrases.{PhraseTree, program, subroutine, function, specification, simple, logical_if, block_if, else_if, else_part, end_if, do_head, while_head, end_do, end_module}
use Rattle.f77_statements.specs.Statements.{phrase_of}
use Rattle.f77_structure.specs.Checks.{fault_of}
use Rattle.f77_structure.specs.Depth.{is_deep}
use Rattle.f77_structure.specs.Lists.{is_none_of}
use Rattle.f77_parser.specs.Gives.{Refused, and_then}
use Rattle.f77_parser.specs.Statements.{StatementTree, read_as, all_read, marks_of}
use Rattle.f77_parser.specs.Building.{build_module}
use Rattle.f77_parser.specs.Ends.{ends_module}
use Rattle.f77_parser.specs.Modules.{module_fault, statements_in, closing_at, unless_faulty, module_read, modules_from, parse_of}
use Rattle.roundtrip_programs.specs.Statements.Formed.{Each}
use Rattle.roundtrip_programs.proofs.Statements.Phrases.{statements_read_back}
use Rattle.roundtrip_programs.specs.ModuleTexts.ModuleLaws.{IsStatement}
use Rattle.roundtrip_programs.proofs.ModuleTexts.Each.{Each-append}
use Rattle.roundtrip_programs.specs.Texts.Texts.{IsReadAs}
use Rattle.roundtrip_programs.proofs.Assigned.{no-fault, read-well}

-- a statement that is not the last of a module
abbrev pub IsInner : StatementTree → Type 0
IsInner s = ends_module s.phrase ≡ false

-- a module without a fault, which is built of the statements up to its END
pub record IsBuilt (m : ParsedTree) : Type 0 where
  pub closing : List (List ℕ)
  pub begun : List StatementTree
  pub end : StatementTree
  pub is : m ≡ build_module closing (begun ++ end ∷ [])
  pub inner : Each IsInner begun
  pub ends : end.phrase ≡ end_module
  pub formed : Each IsStatement (begun ++ end ∷ [])
  pub faultless : fault_of (marks_of (begun ++ end ∷ [])) ≡ None

-- ---- statements

pub formed-by : (l : Line) (r : Result PhraseTree Cause) (f : StatementTree → Result (List StatementTree) Refused) (ss : List StatementTree) → phrase_of l.body ≡ r → and_then (read_as l r) f ≡ Ok ss
    → ((s : StatementTree) → IsStatement s → f s ≡ Ok ss → Each IsStatement ss) → Each IsStatement ss
formed-by l (Ok p) f ss e h g =
    g (record { first = l.first; label = l.label; deep = is_deep l.body; comments = l.comments; phrase = p }) (statements_read_back.formed l.body p e) h
formed-by l (Err c) f ss e h g = cc

pub all-formed : (ls : List Line) (done ss : List StatementTree) → Each IsStatement done → all_read done ls ≡ Ok ss → Each IsStatement ss
all-formed [] done ss d h = let same : done ≡ ss = cc in subst (Each IsStatement) same d
all-formed (l ∷ ls) done ss d h =
    formed-by l (phrase_of l.body) (λ s. all_read (done ++ s ∷ []) ls) ss refl h
    (λ s i g. all-formed ls (done ++ s ∷ []) ss (Each-append IsStatement done (s ∷ []) d (record { first = i; others = tt })) g)

-- ---- modules

pub only-end : (p : PhraseTree) → ends_module p ≡ true → p ≡ end_module
only-end (program n) h = cc
only-end (subroutine n ds) h = cc
only-end (function form n ds) h = cc
only-end (specification d) h = cc
only-end (simple w) h = cc
only-end (logical_if e w) h = cc
only-end (block_if e) h = cc
only-end (else_if e) h = cc
only-end else_part h = cc
only-end end_if h = cc
only-end (do_head d) h = cc
only-end (while_head l e) h = cc
only-end end_do h = cc
only-end end_module h = refl

either : (P : Type 0) (b : Bool) (x y to : Result (List ParsedTree) Refused) → (if b then x else y) ≡ to → (b ≡ true → x ≡ to → P) → (b ≡ false → y ≡ to → P) → P
either P true x y to h f g = f refl h
either P false x y to h f g = g refl h

faultless-by : (P : Type 0) (o : Option Refusal) (q : ParsedTree) (k : ParsedTree → Result (List ParsedTree) Refused) (ps : List ParsedTree) → and_then (unless_faulty o q) k ≡ Ok ps
    → (o ≡ None → k q ≡ Ok ps → P) → P
faultless-by P None q k ps h f = f refl h
faultless-by P (Some r) q k ps h f = cc

-- the first of the modules that are done stays
first-stays : (closing : List (List ℕ)) (ss begun : List StatementTree) (d m : ParsedTree) (ds ms : List ParsedTree) → modules_from closing (d ∷ ds) begun ss ≡ Ok (m ∷ ms) → d ≡ m
first-stays closing [] begun d m ds ms h = cc
first-stays closing (s ∷ ss) begun d m ds ms h =
    let whole = begun ++ s ∷ [] in
    let own = closing_at (is_none_of ss) closing in
    either (d ≡ m) (ends_module s.phrase) (and_then (module_read own whole) (λ p. modules_from closing (d ∷ ds ++ p ∷ []) [] ss)) (modules_from closing (d ∷ ds) whole ss) (Ok (m ∷ ms)) h
    (λ e g. faultless-by (d ≡ m) (module_fault whole) (build_module own whole) (λ p. modules_from closing (d ∷ ds ++ p ∷ []) [] ss) (m ∷ ms) g
    (λ o x. first-stays closing ss [] d m (ds ++ build_module own whole ∷ []) ms x))
    (λ e g. first-stays closing ss whole d m ds ms g)

first-built : (closing : List (List ℕ)) (ss begun : List StatementTree) (m : ParsedTree) (ms : List ParsedTree) → Each IsInner begun → Each IsStatement begun → Each IsStatement ss
    → modules_from closing [] begun ss ≡ Ok (m ∷ ms) → IsBuilt m
first-built closing [] begun m ms i b f h = cc
first-built closing (s ∷ ss) begun m ms i b f h =
    let whole = begun ++ s ∷ [] in
    let own = closing_at (is_none_of ss) closing in
    let formed = Each-append IsStatement begun (s ∷ []) b (record { first = f.first; others = tt }) in
    either (IsBuilt m) (ends_module s.phrase) (and_then (module_read own whole) (λ p. modules_from closing (p ∷ []) [] ss)) (modules_from closing [] whole ss) (Ok (m ∷ ms)) h
    (λ e g. faultless-by (IsBuilt m) (module_fault whole) (build_module own whole) (λ p. modules_from closing (p ∷ []) [] ss) (m ∷ ms) g
    (λ o x. record {
      closing = own;
      begun = begun;
      end = s;
      is = sym (first-stays closing ss [] (build_module own whole) m [] ms x);
      inner = i;
      ends = only-end s.phrase e;
      formed = formed;
      faultless = (no-fault whole o).structure;
    }))
    (λ e g. first-built closing ss whole m ms (Each-append IsInner begun (s ∷ []) i (record { first = e; others = tt })) formed f.others g)

-- ---- texts

built-by : (r : Result (List StatementTree) Refused) (closing : List (List ℕ)) (m : ParsedTree) → ((ss : List StatementTree) → r ≡ Ok ss → Each IsStatement ss)
    → and_then r (λ ss. modules_from closing [] [] ss) ≡ Ok (m ∷ []) → IsBuilt m
built-by (Ok ss) closing m f h = first-built closing ss [] m [] tt tt (f ss refl) h
built-by (Err e) closing m f h = cc

pub read-alone : (text : List ℕ) (m : ParsedTree) → IsReadAs text (m ∷ []) → IsBuilt m
unfolding parse_of
read-alone text m r = built-by (statements_in r.lines.lines) r.lines.closing m (λ ss e. all-formed r.lines.lines [] ss tt (read-well r.lines.lines ss e).all) r.parsed
