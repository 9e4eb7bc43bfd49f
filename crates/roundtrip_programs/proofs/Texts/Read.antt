-- Where the modules of a text come from.
use Rattle.std.proofs.Common.{◌≡◌, ℕ, List, [], ◌∷◌, ◌++◌, refl, sym, ap, ◌∙◌, subst, append_assoc, append-nil, Bool, true, false}
use Rattle.std.specs.Prelude.{Option, Some, None, Result, Ok, Err, if◌then◌else◌}
use Rattle.fixed_form.specs.declared.line.Line.{Line}
use Rattle.f77_ast.specs.DeclTrees.{ParsedTree}
use Rattle.f77_statements.specs.declared.refusal.Cause.{Cause}
use Rattle.f77_statements.specs.Phrases.{PhraseTree, end_module}
use Rattle.f77_statements.specs.Statements.{phrase_of}
use Rattle.fx_lists.specs.declared.refusal.Refusal.{Refusal}
use Rattle.f77_structure.specs.Checks.{fault_of}
use Rattle.f77_structure.specs.Depth.{is_deep}
use Rattle.f77_structure.specs.Lists.{is_none_of}
use Rattle.f77_parser.specs.Gives.{Refused, and_then}
use Rattle.f77_parser.specs.Statements.{StatementTree, read_as, all_read, marks_of}
use Rattle.f77_parser.specs.Building.{written_module, build_module}
use Rattle.f77_parser.specs.Functions.{bounded_names}
use Rattle.f77_parser.specs.Ends.{ends_module, decls_to_end}
use Rattle.f77_parser.specs.References.{empty_call_fault, reference_fault}
use Rattle.f77_parser.specs.Modules.{module_fault, statements_in, closing_at, unless_faulty, modules_from, parse_of}
use Rattle.roundtrip_programs.specs.Cards.Good.{IsBody, AreBodies}
use Rattle.roundtrip_programs.proofs.Cards.Bodies.{bodies_are_short}
use Rattle.roundtrip_programs.specs.Statements.Formed.{Each}
use Rattle.roundtrip_programs.specs.ModuleTexts.ModuleLaws.{MaybeLabel}
use Rattle.roundtrip_programs.proofs.ModuleTexts.Each.{Each-append}
use Rattle.roundtrip_programs.specs.Texts.Texts.{IsReadAs}
use Rattle.roundtrip_programs.proofs.Texts.Sources.{AreKept, IsSource, given}
use Rattle.roundtrip_programs.proofs.Written.Read.{only-end as ends-module}
use Rattle.roundtrip_programs.proofs.Assigned.{NoEnd, NoCalls, no-fault, read-well, first-uncalled}

-- ---- statements

-- a statement that was read of a body
pub record IsSourced (s : StatementTree) : Type 0 where
  pub label : MaybeLabel s.label
  pub comments : AreKept s.comments
  pub body : List ℕ
  pub whole : IsBody body
  pub read : phrase_of body ≡ Ok s.phrase
  pub deep : s.deep ≡ is_deep body

abbrev pub AreSourced : List StatementTree → Type 0
AreSourced ss = Each IsSourced ss

statement-sourced : (l : Line) (r : Result PhraseTree Cause) (f : StatementTree → Result (List StatementTree) Refused) (ss : List StatementTree) → IsSource l → IsBody l.body → phrase_of l.body ≡ r
    → and_then (read_as l r) f ≡ Ok ss → ((s : StatementTree) → IsSourced s → f s ≡ Ok ss → AreSourced ss) → AreSourced ss
statement-sourced l (Ok p) f ss i b e h g =
    g (record { first = l.first; label = l.label; deep = is_deep l.body; comments = l.comments; phrase = p })
    (record { label = i.label; comments = i.comments; body = l.body; whole = b; read = e; deep = refl }) h
statement-sourced l (Err c) f ss i b e h g = cc

all-sourced : (ls : List Line) (done ss : List StatementTree) → Each IsSource ls → AreBodies ls → AreSourced done → all_read done ls ≡ Ok ss → AreSourced ss
all-sourced [] done ss i b d h = let same : done ≡ ss = cc in subst AreSourced same d
all-sourced (l ∷ ls) done ss i b d h =
    statement-sourced l (phrase_of l.body) (λ s. all_read (done ++ s ∷ []) ls) ss i.first b.first refl h
    (λ s p e. all-sourced ls (done ++ s ∷ []) ss i.others b.others (Each-append IsSourced done (s ∷ []) d (record { first = p; others = tt })) e)

-- ---- modules

-- a module that was built of such statements, without a fault
pub record IsParsed (p : ParsedTree) : Type 0 where
  pub closing : List (List ℕ)
  pub begun : List StatementTree
  pub end : StatementTree
  pub is : p ≡ build_module closing (begun ++ end ∷ [])
  pub ends : end.phrase ≡ end_module
  pub kept : AreKept closing
  pub sourced : AreSourced (begun ++ end ∷ [])
  pub faultless : fault_of (marks_of (begun ++ end ∷ [])) ≡ None
  pub inner : NoEnd begun
  pub references : reference_fault (begun ++ end ∷ []) ≡ None
  pub calls : NoCalls (bounded_names (decls_to_end (begun ++ end ∷ []))) (begun ++ end ∷ [])

-- only the last module has comments at its end
abbrev pub IsBefore : List ParsedTree → ParsedTree → Type 0
IsBefore [] p = Unit {0}
IsBefore (q ∷ qs) p = p.places.closing ≡ []

abbrev pub AreParsed : List ParsedTree → Type 0
AreParsed [] = Unit {0}
AreParsed (p ∷ ps) = record { first : IsParsed p; before : IsBefore ps p; others : AreParsed ps }

-- these modules, and others behind them
record GoesOn (done ps : List ParsedTree) : Type 0 where
  pub more : List ParsedTree
  pub is : ps ≡ done ++ more
  pub parsed : AreParsed more

at-kept : (last : Bool) (closing : List (List ℕ)) → AreKept closing → AreKept (closing_at last closing)
at-kept true closing h = h
at-kept false closing h = tt

-- one module more
module-more : (closing : List (List ℕ)) (done ps : List ParsedTree) (q : ParsedTree) (ss : List StatementTree) → IsParsed q → q.places.closing ≡ closing_at (is_none_of ss) closing
    → modules_from closing (done ++ q ∷ []) [] ss ≡ Ok ps → GoesOn (done ++ q ∷ []) ps → GoesOn done ps
module-more closing done ps q [] p c h g = let same : done ++ q ∷ [] ≡ ps = cc in record { more = q ∷ []; is = sym same; parsed = record { first = p; before = tt; others = tt } }
module-more closing done ps q (s ∷ ss) p c h g = record { more = q ∷ g.more; is = g.is ∙ append_assoc done (q ∷ []) g.more; parsed = record { first = p; before = before g.more; others = g.parsed } }
  where
    before : (qs : List ParsedTree) → IsBefore qs q
    before [] = tt
    before (x ∷ qs) = c

faultless-on : (f : Option Refusal) (q : ParsedTree) (k : ParsedTree → Result (List ParsedTree) Refused) (done ps : List ParsedTree) → and_then (unless_faulty f q) k ≡ Ok ps
    → (f ≡ None → k q ≡ Ok ps → GoesOn done ps) → GoesOn done ps
faultless-on None q k done ps h g = g refl h
faultless-on (Some f) q k done ps h g = cc

choice-on : (b : Bool) (x y : Result (List ParsedTree) Refused) (done ps : List ParsedTree) → (if b then x else y) ≡ Ok ps
    → (b ≡ true → x ≡ Ok ps → GoesOn done ps) → (b ≡ false → y ≡ Ok ps → GoesOn done ps) → GoesOn done ps
choice-on true x y done ps h f g = f refl h
choice-on false x y done ps h f g = g refl h

all-go : (closing : List (List ℕ)) (ss : List StatementTree) (done ps : List ParsedTree) (begun : List StatementTree) → AreKept closing → AreSourced begun → AreSourced ss → NoEnd begun → empty_call_fault (begun ++ ss) ≡ None
    → modules_from closing done begun ss ≡ Ok ps → GoesOn done ps
unfolding build_module written_module
all-go closing [] done ps begun k b i n c h = let same : done ≡ ps = cc in record { more = []; is = sym same ∙ sym (append-nil done); parsed = tt }
all-go closing (s ∷ ss) done ps begun k b i n c h =
    let whole = begun ++ s ∷ [] in
    let own = closing_at (is_none_of ss) closing in
    let more : AreSourced whole = Each-append IsSourced begun (s ∷ []) b (record { first = i.first; others = tt }) in
    choice-on (ends_module s.phrase)
    (and_then (unless_faulty (module_fault whole) (build_module own whole)) (λ p. modules_from closing (done ++ p ∷ []) [] ss)) (modules_from closing done whole ss) done ps h
    (λ e g. faultless-on (module_fault whole) (build_module own whole) (λ p. modules_from closing (done ++ p ∷ []) [] ss) done ps g
    (λ f x. (let none = no-fault whole f in
    let u = first-uncalled begun s ss n e c in
    module-more closing done ps (build_module own whole) ss
    (record {
      closing = own;
      begun = begun;
      end = s;
      is = refl;
      ends = ends-module s.phrase e;
      kept = at-kept (is_none_of ss) closing k;
      sourced = more;
      faultless = none.structure;
      inner = n;
      references = none.references;
      calls = u.own;
    })
    refl x (all-go closing ss (done ++ build_module own whole ∷ []) ps [] k tt i.others tt u.behind x))))
    (λ e g. all-go closing ss done ps whole k more i.others (Each-append (λ (t : StatementTree). ends_module t.phrase ≡ false) begun (s ∷ []) n (record { first = e; others = tt }))
    (ap empty_call_fault (append_assoc begun (s ∷ []) ss) ∙ c) g)

-- ---- texts

then-on : (r : Result (List StatementTree) Refused) (closing : List (List ℕ)) (ps : List ParsedTree) → AreKept closing → ((ss : List StatementTree) → r ≡ Ok ss → AreSourced ss × (empty_call_fault ss ≡ None))
    → and_then r (λ ss. modules_from closing [] [] ss) ≡ Ok ps → AreParsed ps
then-on (Ok ss) closing ps k i h = let w = i ss refl in let g = all-go closing ss [] ps [] k tt w.0 tt w.1 h in subst AreParsed (sym g.is) g.parsed
then-on (Err e) closing ps k i h = cc

-- the modules that a text is read as
pub all-parsed : (text : List ℕ) (ps : List ParsedTree) → IsReadAs text ps → AreParsed ps
unfolding parse_of
all-parsed text ps r =
    let g = given text r.lines r.lined in
    then-on (statements_in r.lines.lines) r.lines.closing ps g.closing
    (λ ss e. (let w = read-well r.lines.lines ss e in (all-sourced r.lines.lines [] ss g.statements (bodies_are_short text r.lines r.lined) tt w.all, w.calls))) r.parsed
