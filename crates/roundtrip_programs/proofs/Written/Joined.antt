-- Joined texts have the trees of the modules of each, and are written as these.
use Rattle.std.proofs.Common.{◌≡◌, ℕ, ◌+◌, true, List, [], ◌∷◌, ◌++◌, length, map, refl, sym, ap, ◌∙◌, append_assoc, append-nil}
use Rattle.fixed_form.specs.TextLines.{text_lines}
use Rattle.f77_ast.specs.declared.places.Part.{Part}
use Rattle.f77_ast.specs.declared.places.Spot.{Spot}
use Rattle.f77_ast.specs.DeclTrees.{ModuleTree, ParsedTree}
use Rattle.f77_printer.specs.declared.added.Added.{Added}
use Rattle.f77_printer.specs.Layout.{statement_lines}
use Rattle.f77_printer.specs.PageText.{is_part, with_text, lines_text}
use Rattle.f77_printer.specs.AddedText.{added_text}
use Rattle.f77_printer.specs.ModuleText.{with_module, first_part, module_text}
use Rattle.roundtrip_programs.specs.Statements.Written.{phrase_text}
use Rattle.roundtrip_programs.specs.ModuleTexts.Cards.{Card, statements_of}
use Rattle.roundtrip_programs.specs.ModuleTexts.Page.{spots_behind, inner_comments, inner_behind, added_at, page_text}
use Rattle.roundtrip_programs.proofs.ModuleTexts.ModulePages.{written_by_cards}
use Rattle.roundtrip_programs.specs.Texts.Texts.{text_of, modules_text}
use Rattle.roundtrip_programs.proofs.Texts.Rows.{lines-append}
use Rattle.roundtrip_programs.specs.Laws.{tree_of}
use Rattle.roundtrip_programs.specs.Pieces.Moved.{moved_spot, moved}
use Rattle.roundtrip_programs.specs.Pieces.Joined.{before_spots, after_comments, unclosed, joined_from, AreReadAlone}
use Rattle.roundtrip_programs.specs.Written.Laws.{by_tree, JoinedHaveTheSameTrees, JoinedAreWrittenAlike}
use Rattle.roundtrip_programs.proofs.Written.Moved.{moved_are_written_alike}
use Rattle.roundtrip_programs.proofs.Written.Read.{read-alone}
use Rattle.roundtrip_programs.proofs.Written.Fronts.{IsFronted, fronted}
use Rattle.fx_lists.proofs.Booleans.{chosen}

-- ---- trees

pub joined-trees : (comments : List (List ℕ)) (by : ℕ) (texts : List (List ℕ)) (ms : List ParsedTree) → AreReadAlone texts ms → map tree_of (joined_from comments by texts ms) ≡ map tree_of ms
joined-trees comments by [] [] h = refl
joined-trees comments by [] (m ∷ ms) h = absurd h
joined-trees comments by (t ∷ ts) [] h = absurd h
joined-trees comments by (t ∷ []) (m ∷ []) h = refl
joined-trees comments by (t ∷ []) (m ∷ n ∷ ms) h = absurd h.1
joined-trees comments by (t ∷ u ∷ ts) (m ∷ ms) h = ap (λ xs. tree_of m ∷ xs) (joined-trees m.places.closing (by + length (text_lines t)) (u ∷ ts) ms h.1)

pub joined_have_the_same_trees : JoinedHaveTheSameTrees
joined_have_the_same_trees texts ms h = joined-trees [] 0 texts ms h

-- ---- more comments before the first statement

-- the text of statements, the first being of the part of the first spot and having these comments
abbrev led_text : (Part → List ℕ) → Card → List Card → List (List ℕ) → List Spot → List ℕ
led_text added c cs comments left =
    lines_text comments ++ added_at added c.part ++ lines_text (inner_comments c.inner left) ++ statement_lines c.label (phrase_text c.phrase) ++ page_text added (inner_behind c.inner left) cs

led-page : (added : Part → List ℕ) (c : Card) (cs : List Card) (s : Spot) (ss : List Spot) → is_part c.part s.part ≡ true → page_text added (s ∷ ss) (c ∷ cs) ≡ led_text added c cs s.comments ss
led-page added c cs s ss e =
    ap (λ (x : List (List ℕ)). led_text added c cs x (spots_behind c.part (s ∷ ss))) (chosen (is_part c.part s.part) s.comments [] e)
    ∙ ap (led_text added c cs s.comments) (chosen (is_part c.part s.part) ss (s ∷ ss) e)

regroup : (x a b c d e : List ℕ) → x ++ a ++ b ++ c ++ d ++ e ≡ x ++ (a ++ b ++ c ++ d ++ e)
regroup x a b c d e = simp append_assoc refl

more-comments : (added : Part → List ℕ) (c : Card) (cs : List Card) (comments own : List (List ℕ)) (left : List Spot)
    → led_text added c cs (comments ++ own) left ≡ lines_text comments ++ led_text added c cs own left
more-comments added c cs comments own left =
    let inner = lines_text (inner_comments c.inner left) in
    let line = statement_lines c.label (phrase_text c.phrase) in
    let rest = page_text added (inner_behind c.inner left) cs in
    ap (λ (x : List ℕ). x ++ added_at added c.part ++ inner ++ line ++ rest) (lines-append comments own)
    ∙ regroup (lines_text comments) (lines_text own) (added_at added c.part) inner line rest

page-after : (added : Part → List ℕ) (comments : List (List ℕ)) (c : Card) (cs : List Card) (s : Spot) (ss : List Spot) → is_part c.part s.part ≡ true
    → page_text added (before_spots comments (s ∷ ss)) (c ∷ cs) ≡ lines_text comments ++ page_text added (s ∷ ss) (c ∷ cs)
page-after added comments c cs s ss e =
    led-page added c cs (record s { comments = comments ++ s.comments }) ss e
    ∙ more-comments added c cs comments s.comments ss
    ∙ ap (λ (x : List ℕ). lines_text comments ++ x) (sym (led-page added c cs s ss e))

module-after : (comments : List (List ℕ)) (m : ParsedTree) (added : List Added) → IsFronted m
    → module_text (after_comments comments m).places m.module_read added ≡ lines_text comments ++ module_text m.places m.module_read added
module-after comments m added h =
    let by = added_text (first_part m.module_read) added in
    let end = lines_text m.places.closing in
    let s = h.spot_is in let ss = h.spots in let c = h.card_is in let cs = h.cards in
    written_by_cards (after_comments comments m).places m.module_read added h.well
    ∙ ap (λ x. page_text by (before_spots comments x) (statements_of m.module_read) ++ end) h.is
    ∙ ap (λ x. page_text by (before_spots comments (s ∷ ss)) x ++ end) h.written
    ∙ ap (λ (x : List ℕ). x ++ end) (page-after by comments c cs s ss h.same)
    ∙ append_assoc (lines_text comments) (page_text by (s ∷ ss) (c ∷ cs)) end
    ∙ ap (λ x. lines_text comments ++ (page_text by (s ∷ ss) x ++ end)) (sym h.written)
    ∙ ap (λ x. lines_text comments ++ (page_text by x (statements_of m.module_read) ++ end)) (sym h.is)
    ∙ ap (λ (x : List ℕ). lines_text comments ++ x) (sym (written_by_cards m.places m.module_read added h.well))

-- ---- without the comments at the end

closed-text : (m : ParsedTree) (added : List Added) → module_text (unclosed m).places m.module_read added ++ lines_text m.places.closing ≡ module_text m.places m.module_read added
unfolding with_text
closed-text m added =
    let page = (with_module (added_text (first_part m.module_read) added) m.module_read (record { text = []; spots = m.places.spots })).text in
    ap (λ (x : List ℕ). x ++ lines_text m.places.closing) (append-nil page)

-- ---- all of them

moved-fronted : (by : ℕ) (m : ParsedTree) → IsFronted m → IsFronted (moved by m)
moved-fronted by m h = record {
  well = h.well;
  spot_is = moved_spot by h.spot_is;
  spots = map (moved_spot by) h.spots;
  is = ap (map (moved_spot by)) h.is;
  card_is = h.card_is;
  cards = h.cards;
  written = h.written;
  same = h.same;
}

-- behind so many lines and these comments
behind-text : (comments : List (List ℕ)) (by : ℕ) (m : ParsedTree) (added : ModuleTree → List Added) → IsFronted m
    → text_of (by_tree added) (after_comments comments (moved by m)) ≡ lines_text comments ++ text_of (by_tree added) m
behind-text comments by m added h =
    module-after comments (moved by m) (added m.module_read) (moved-fronted by m h)
    ∙ ap (λ (x : List ℕ). lines_text comments ++ x) (moved_are_written_alike by m (added m.module_read))

joined-text : (comments : List (List ℕ)) (by : ℕ) (t : List ℕ) (ts : List (List ℕ)) (m : ParsedTree) (ms : List ParsedTree) (added : ModuleTree → List Added) → AreReadAlone (t ∷ ts) (m ∷ ms)
    → modules_text (by_tree added) (joined_from comments by (t ∷ ts) (m ∷ ms)) ≡ lines_text comments ++ modules_text (by_tree added) (m ∷ ms)
joined-text comments by t [] m [] added h =
    ap (λ (x : List ℕ). x ++ []) (behind-text comments by m added (fronted m (read-alone t m h.0))) ∙ append_assoc (lines_text comments) (text_of (by_tree added) m) []
joined-text comments by t [] m (n ∷ ns) added h = absurd h.1
joined-text comments by t (u ∷ us) m [] added h = absurd h.1
joined-text comments by t (u ∷ us) m (n ∷ ns) added h =
    let front = after_comments comments (moved by m) in
    let end = lines_text m.places.closing in
    let own = text_of (by_tree added) (unclosed front) in
    let rest = modules_text (by_tree added) (n ∷ ns) in
    ap (λ (x : List ℕ). own ++ x) (joined-text m.places.closing (by + length (text_lines t)) u us n ns added h.1)
    ∙ sym (append_assoc own end rest)
    ∙ ap (λ (x : List ℕ). x ++ rest) (closed-text front (added m.module_read))
    ∙ ap (λ (x : List ℕ). x ++ rest) (behind-text comments by m added (fronted m (read-alone t m h.0)))
    ∙ append_assoc (lines_text comments) (text_of (by_tree added) m) rest

pub joined_are_written_alike : JoinedAreWrittenAlike
joined_are_written_alike [] [] added h = refl
joined_are_written_alike [] (m ∷ ms) added h = absurd h
joined_are_written_alike (t ∷ ts) [] added h = absurd h
joined_are_written_alike (t ∷ ts) (m ∷ ms) added h = joined-text [] 0 t ts m ms added h
