-- A text that is read into its modules is refused as it is when it is read as a whole.
use Rattle.std.proofs.Common.{◌≡◌, ℕ, ◌+◌, ◌-◌, List, [], ◌∷◌, Option, Some, None, Result, Ok, Err, refl, sym, ap, ap₂, ◌∙◌, subst, arith}
use Rattle.std.specs.Prelude.{slice_get, IfOk}
use Rattle.std.specs.declared.alloc.AllocError.{AllocError}
use Rattle.fixed_form.specs.declared.line.Lines.{Lines}
use Rattle.fixed_form.specs.Reading as lines
use Rattle.fx_lists.specs.declared.code.Code.{Code}
use Rattle.fx_lists.specs.declared.refusal.Refusal.{Refusal}
use Rattle.fx_lists.specs.Refusals.{number_of}
use Rattle.f77_ast.specs.DeclTrees.{ParsedTree}
use Rattle.f77_parser.specs.Gives.{Refused, and_then}
use Rattle.f77_parser.specs.Modules.{parse_of}
use Rattle.f77_ast.specs.Symbols.{SymbolTree}
use Rattle.storage_layout.specs.Symbols.{symbols_of}
use Rattle.call_graph.specs.declared.graph.Graph.{Graph}
use Rattle.call_graph.specs.declared.refusal.Fault.{Fault}
use Rattle.call_graph.specs.declared.refusal.Fault.TheVariants.{NoMain, At}
use Rattle.call_graph.specs.Links.{link_of}
use Rattle.pips_top.specs.declared.wanted.Wanted.{Wanted}
use Rattle.pipsmake_base.specs.pipsmake_meaning.Texts as database
use Rattle.pipsmake_base.specs.pipsmake_meaning.Texts.{ModuleText, links_in}
use Rattle.pipsmake_base.specs.session_texts.Sources as session
use Rattle.pipsmake_base.specs.session_texts.Sources.{refused, refusal_for, source_modules, table_or, tables_of}
use Rattle.pipsmake_base.specs.laws_database.Sources.Whole as whole
use Rattle.pipsmake_base.specs.laws_database.Sources.Whole.{LinkedAlike, linked_or, linked_modules, whole_links, lines_before, in_source, linked_texts, source_links}
use Rattle.pipsmake_base.specs.pipsmake_db.declared.db.Db.{Db}
use Rattle.pipsmake_base.specs.pipsmake_db.declared.refusal.DbRefusal.{DbRefusal}
use Rattle.pipsmake_base.specs.pipsmake_db.declared.refusal.DbRefusal.TheVariants as db
use Rattle.pipsmake_base.specs.pipsmake_db.Refusals.{IsRefused, refused_text, text_refusal, fault_in, refused_links, link_refusal}
use Rattle.pips_top.specs.Made.{made, made_of}
use Rattle.pips_top.specs.Program.{ProgramTree}
use Rattle.pips_top.specs.Reading.{lines_or, graph_or, linked_by, program_of, reading}
use Rattle.pips_top.specs.Replies.{PrintsWhole, RefusedBy}
use Rattle.pips_top.specs.declared.make.Made.{Made}
use Rattle.pips_top.specs.declared.make.Made.TheVariants.{Refuses}

-- ---- the links of a program

abbrev links_of : Result ProgramTree Refused → Result Graph Refused
links_of (Ok p) = Ok p.graph
links_of (Err r) = Err r

same_lines : (r : Result Lines (ℕ × ℕ)) → lines_or r ≡ database.lines_or r
same_lines (Ok l) = refl
same_lines (Err at) = refl

same_table : (r : Result (List SymbolTree) Refusal) → table_or r ≡ session.table_or r
same_table (Ok t) = refl
same_table (Err r) = refl

same_tables : (ms : List ParsedTree) → tables_of ms ≡ session.tables_of ms
same_tables [] = refl
same_tables (m ∷ ms) =
    ap₂ (λ (r : Result (List SymbolTree) Refused) (q : Result (List (List SymbolTree)) Refused). and_then r (λ t. and_then q (λ ts. Ok (t ∷ ts)))) (same_table (symbols_of m)) (same_tables ms)

with_links : (ms : List ParsedTree) (ts : List (List SymbolTree)) (r : Result Graph Fault) → links_of (linked_by ms ts (graph_or r)) ≡ linked_or r
with_links ms ts (Ok g) = refl
with_links ms ts (Err NoMain) = refl
with_links ms ts (Err (At place line cause)) = refl

with_tables : (ms : List ParsedTree) (q : Result (List (List SymbolTree)) Refused) → links_of (and_then q (λ ts. linked_by ms ts (graph_or (link_of ms ts)))) ≡ and_then q (λ ts. linked_or (link_of ms ts))
with_tables ms (Ok ts) = with_links ms ts (link_of ms ts)
with_tables ms (Err r) = refl

module_links : (ms : List ParsedTree) → links_of (program_of ms) ≡ linked_modules ms
unfolding program_of
module_links ms = with_tables ms (tables_of ms) ∙ ap (λ q. and_then q (λ tables. linked_or (link_of ms tables))) (same_tables ms)

with_modules : (r : Result (List ParsedTree) Refused) → links_of (and_then r program_of) ≡ and_then r linked_modules
with_modules (Ok ms) = module_links ms
with_modules (Err r) = refl

read_links : (text : List ℕ) → links_of (reading text) ≡ whole_links text
unfolding reading
read_links text =
    with_modules (and_then (lines_or (lines.reading text)) parse_of) ∙ ap (λ (r : Result Lines Refused). and_then (and_then r parse_of) linked_modules) (same_lines (lines.reading text))

-- ---- what is refused

refused_whole : (r : Result ProgramTree Refused) (q : Refused) → links_of r ≡ Err q → r ≡ Err q
refused_whole (Ok p) q e = cc
refused_whole (Err r) q e = let same : r ≡ q = cc in ap Err same

module _ (law : LinkedAlike) (show : Wanted) (bytes : List ℕ) where
  made_refused : (q : Refused) → source_links bytes ≡ Err q → made show bytes ≡ Refuses q.line q.code q.keyword
  made_refused q e = ap (made_of show) (refused_whole (reading bytes) q (read_links bytes ∙ sym (law bytes) ∙ e))

  text_refused : (l c : ℕ) (k : List ℕ) (r : Result (List ModuleText) Refused) → source_modules bytes ≡ r → refused_text r ≡ Some (db.Source l c k) → made show bytes ≡ Refuses l c k
  text_refused l c k (Ok ts) f e = cc
  text_refused l c k (Err q) f e =
      let a : q.line ≡ l = cc in
      let b : q.code ≡ c = cc in
      let w : q.keyword ≡ k = cc in
      let same : Refuses q.line q.code q.keyword ≡ Refuses l c k = cc in
      made_refused q (ap (λ r. and_then r linked_texts) f) ∙ same

  -- the line of a module's text, and that of the source
  at_line : (t : Option ModuleText) (l : ℕ) (cause : Code) (x : List ℕ) (line first code : ℕ) → Some (fault_in t l cause) ≡ Some (db.Link x line first code) → Refuses (l + lines_before t) (number_of cause) [] ≡ Refuses (first - 1 + line) code []
  at_line None l cause x line first code e =
      let a : l ≡ line = cc in
      let b : 1 ≡ first = cc in
      let n : number_of cause ≡ code = cc in
      let sum : l + 0 ≡ first - 1 + line = omega arith in
      ap₂ (λ at c. Refuses at c []) sum n
  at_line (Some t) l cause x line first code e =
      let a : l ≡ line = cc in
      let b : t.first ≡ first = cc in
      let n : number_of cause ≡ code = cc in
      let sum : l + (t.first - 1) ≡ first - 1 + line = omega arith in
      ap₂ (λ at c. Refuses at c []) sum n

  links_refused : (ts : List ModuleText) → source_modules bytes ≡ Ok ts → (x : List ℕ) (line first code : ℕ) (r : Result Graph Fault) → links_in ts ≡ r → refused_links ts r ≡ Some (db.Link x line first code)
      → made show bytes ≡ Refuses (first - 1 + line) code []
  links_refused ts split x line first code (Ok g) f e = cc
  links_refused ts split x line first code (Err NoMain) f e =
      let a : 1 ≡ line = cc in
      let b : 1 ≡ first = cc in
      let n : 50 ≡ code = cc in
      let sum : 1 ≡ first - 1 + line = omega arith in
      made_refused (refused (refusal_for NoMain)) (ap (λ r. and_then r linked_texts) split ∙ ap (λ r. linked_or (in_source ts r)) f) ∙ ap₂ (λ at c. Refuses at c []) sum n
  links_refused ts split x line first code (Err (At place l cause)) f e =
      made_refused (refused (refusal_for (whole.fault_in ts (At place l cause)))) (ap (λ r. and_then r linked_texts) split ∙ ap (λ r. linked_or (in_source ts r)) f)
      ∙ at_line (slice_get ts place) l cause x line first code e

  -- ---- as a database is refused

  no_link : (r : Result (List ModuleText) Refused) (x : List ℕ) (line first code : ℕ) → refused_text r ≡ Some (db.Link x line first code) → ⊥
  no_link (Ok ts) x line first code e = cc
  no_link (Err q) x line first code e = cc

  no_source_at : (t : Option ModuleText) (l : ℕ) (cause : Code) (line code : ℕ) (keyword : List ℕ) → Some (fault_in t l cause) ≡ Some (db.Source line code keyword) → ⊥
  no_source_at None l cause line code keyword e = cc
  no_source_at (Some t) l cause line code keyword e = cc

  no_source : (ts : List ModuleText) (r : Result Graph Fault) (line code : ℕ) (keyword : List ℕ) → refused_links ts r ≡ Some (db.Source line code keyword) → ⊥
  no_source ts (Ok g) line code keyword e = cc
  no_source ts (Err NoMain) line code keyword e = cc
  no_source ts (Err (At place l cause)) line code keyword e = no_source_at (slice_get ts place) l cause line code keyword e

  whole_by : (d e : Db) (m : Made) (line code : ℕ) (keyword : List ℕ) → m ≡ Refuses line code keyword → made show bytes ≡ Refuses line code keyword → PrintsWhole show bytes d e m
  whole_by d e m line code keyword is h = subst (λ n. PrintsWhole show bytes d e n) (sym is) h

  pub refused_as_text : (d e : Db) (r : DbRefusal) (m : Made) → IsRefused (text_refusal bytes) r → RefusedBy r m → PrintsWhole show bytes d e m
  refused_as_text d e db.NoSuchKind m why by = absurd by
  refused_as_text d e db.NoSuchName m why by = absurd by
  refused_as_text d e db.NotShown m why by = absurd by
  refused_as_text d e (db.Source line code keyword) m why by = whole_by d e m line code keyword by (text_refused line code keyword (source_modules bytes) refl why)
  refused_as_text d e (db.Link x line first code) m why by = absurd (no_link (source_modules bytes) x line first code why)
  refused_as_text d e db.Memory m why by = absurd by

  pub refused_as_links : (ts : List ModuleText) → source_modules bytes ≡ Ok ts → (d e : Db) (r : DbRefusal) (m : Made) → IsRefused (link_refusal ts) r → RefusedBy r m → PrintsWhole show bytes d e m
  refused_as_links ts split d e db.NoSuchKind m why by = absurd by
  refused_as_links ts split d e db.NoSuchName m why by = absurd by
  refused_as_links ts split d e db.NotShown m why by = absurd by
  refused_as_links ts split d e (db.Source line code keyword) m why by = absurd (no_source ts (links_in ts) line code keyword why)
  refused_as_links ts split d e (db.Link x line first code) m why by = whole_by d e m (first - 1 + line) code [] by (links_refused ts split x line first code (links_in ts) refl why)
  refused_as_links ts split d e db.Memory m why by = absurd by

-- what holds of what is made, where that is made
pub on_made : (r : Result Made AllocError) (P Q : Made → Type 0) → ((m : Made) → P m → Q m) → IfOk r P → IfOk r Q
on_made (Ok m) P Q f h = f m h
on_made (Err e) P Q f h = tt
