-- What is kept rests on stored results while texts are seen, and kept as they were.
use Rattle.std.proofs.Common.{◌≡◌, ℕ, true, false, List, [], ◌∷◌, Some, refl, sym, ap, ◌∙◌, subst}
use Rattle.std.specs.Prelude.{bytes_eq, not, if◌then◌else◌}
use Rattle.std.specs.Cmp.Lexicographic.{bytes_decides}
use Rattle.std.specs.List.{AllByRecursion, IsDistinct}
use Rattle.std.proofs.lemmas.Bool.{or_left, or_right}
use Rattle.session_texts.specs.pipsmake_rules.declared.kind.Kind.{Kind}
use Rattle.session_texts.specs.pipsmake_rules.Neighbours.{has_name}
use Rattle.session_texts.specs.pipsmake_meaning.Texts.{ModuleText, names_in, text_of, SameTexts}
use Rattle.session_texts.specs.pipsmake_meaning.MemoCells.{MemoCell, MemoCells, KeepsIn, SeenIn}
use Rattle.session_texts.specs.pipsmake_meaning.Values.{source, text, result}
use Rattle.session_texts.specs.pipsmake_meaning.Making.{AllStay}
use Rattle.laws_database.specs.Stands.{Valuation}
use Rattle.laws_database.specs.Unverified.{RestsOn, value_with}
use Rattle.laws_database.proofs.Going.{given_may_be_seen, given_texts_may_stay}
use Rattle.laws_database.proofs.AtLines.{lines_may_change, names_same, text_same}
use Rattle.session_texts.specs.Changes.{replaced}
use Rattle.session_texts.specs.Laws.{or_text, TextOfReplaced}
use Rattle.session_texts.specs.Modules.{NamesDiffer}
use Rattle.pipsmake_db.specs.declared.db.Db.{Db}
use Rattle.pipsmake_db.specs.Calls.{RestsAtSame}
use Rattle.pipsmake_db.specs.State.{texts_of, memo_cells_in, gone_of}
use Rattle.pipsmake_db.specs.Texts.{RestsOnSame, KeepsInTurn}

-- ---- one text

pub rests_same : (old new : MemoCells) → AllStay old new → RestsOnSame old new
rests_same old new h ts d r = let same : old ≡ new = λ i item x. sym (h item x) i in subst (λ sh. RestsOn sh ts d) same r

no_text : (k : Kind) (x y : List ℕ) → ((result k ≡ text) × (y ≡ x)) → ⊥
no_text k x y p = let q : result k ≡ text = p.0 in cc

pub rests_seen : (old new : MemoCells) (x t : List ℕ) (stamp : ℕ) → SeenIn old new text x (source t) stamp → RestsOnSame old new
rests_seen old new x t stamp sees ts d r = record {
  keeps = given_may_be_seen old new ts d text x (source t) stamp r.keeps sees;
  stored = λ k y s h. (let there = r.stored k y s h in (there.0, ap (λ (z : MemoCell). z.kept) (sees.others (result k) y (no_text k x y)) ∙ there.1));
}

rests_kept : (old new : MemoCells) (ts : List ModuleText) (d : Valuation) (x t : List ℕ) → text_of ts x ≡ Some t → KeepsIn old new text x (source t) [] → RestsOn old ts d → RestsOn new ts d
rests_kept old new ts d x t is keeps r = record {
  keeps = given_texts_may_stay old new ts d x t r.keeps is keeps;
  stored = λ k y s h. (let there = r.stored k y s h in (there.0, ap (λ (z : MemoCell). z.kept) (keeps.others (result k) y (no_text k x y)) ∙ there.1));
}

-- ---- several texts

-- each of these is the text of its name
abbrev pub AreThere : List ModuleText → List ModuleText → Type 0
AreThere ts [] = Unit {0}
AreThere ts (u ∷ us) = (text_of ts u.name ≡ Some u.text) × AreThere ts us

rests_in_turn : (us : List ModuleText) (sh new : MemoCells) (ts : List ModuleText) (d : Valuation) → AreThere ts us → KeepsInTurn sh us new → RestsOn sh ts d → RestsOn new ts d
rests_in_turn [] sh new ts d a k r = rests_same sh new k ts d r
rests_in_turn (u ∷ us) sh new ts d a k r = rests_in_turn us k.0 new ts d a.1 k.2 (rests_kept sh k.0 ts d u.name u.text a.0 k.1 r)

there_later : (t : ModuleText) (ts us : List ModuleText) → AllByRecursion (λ y. bytes_eq t.name y ≡ false) (names_in us) → AreThere ts us → AreThere (t ∷ ts) us
there_later t ts [] d a = tt
there_later t ts (u ∷ us) d a = (ap (λ b. if b then Some t.text else text_of ts u.name) d.0 ∙ a.0, there_later t ts us d.1 a.1)

pub all_there : (us : List ModuleText) → NamesDiffer us → AreThere us us
unfolding IsDistinct
all_there [] d = tt
all_there (u ∷ us) d = (ap (λ b. if b then Some u.text else text_of us u.name) ((bytes_decides u.name u.name).1 refl), there_later u us us d.0 (all_there us d.1))

there_too : (ts us : List ModuleText) → ((y t : List ℕ) → text_of us y ≡ Some t → text_of ts y ≡ Some t) → (vs : List ModuleText) → AreThere us vs → AreThere ts vs
there_too ts us f [] a = tt
there_too ts us f (v ∷ vs) a = (f v.name v.text a.0, there_too ts us f vs a.1)

-- ---- the same texts

-- ---- names that go

abbrev pub HasEach : List (List ℕ) → List (List ℕ) → Type 0
HasEach all [] = Unit {0}
HasEach all (x ∷ xs) = (has_name all x ≡ true) × HasEach all xs

has_later : (y : List ℕ) (all xs : List (List ℕ)) → HasEach all xs → HasEach (y ∷ all) xs
has_later y all [] h = tt
has_later y all (x ∷ xs) h = (or_right (bytes_eq y x) (has_name all x) h.0, has_later y all xs h.1)

pub has_each : (xs : List (List ℕ)) → HasEach xs xs
has_each [] = tt
has_each (x ∷ xs) = (or_left (bytes_eq x x) (has_name xs x) ((bytes_decides x x).1 refl), has_later x xs xs (has_each xs))

none_goes : (ts : List ModuleText) (xs : List (List ℕ)) → HasEach (names_in ts) xs → gone_of ts xs ≡ []
none_goes ts [] h = refl
none_goes ts (x ∷ xs) h = ap (λ b. if not b then x ∷ gone_of ts xs else gone_of ts xs) h.0 ∙ none_goes ts xs h.1

-- no name goes where the texts stay
pub same_gone : (ts us found : List ModuleText) (before : List (List ℕ)) → before ≡ names_in ts → us ≡ found → SameTexts ts us → gone_of found before ≡ []
same_gone ts us found before b e same =
    let names : before ≡ names_in found = b ∙ names_same ts us same ∙ ap names_in e in
    ap (gone_of found) names ∙ none_goes found (names_in found) (has_each (names_in found))

-- ---- databases

module _ (old new : Db) (found : List ModuleText) (mid : MemoCells) (differ : NamesDiffer found) (keeps : KeepsInTurn mid found (memo_cells_in new)) where
  rests_on_found : (SameTexts (texts_of old) (texts_of new) → RestsOnSame (memo_cells_in old) mid) → (SameTexts (texts_of old) (texts_of new) → (y t : List ℕ) → text_of found y ≡ Some t → text_of (texts_of old) y ≡ Some t) → RestsAtSame old new
  rests_on_found seen there same stored r =
      let ts : List ModuleText = texts_of old in
      let us : List ModuleText = texts_of new in
      let kept : RestsOn (memo_cells_in new) ts (value_with ts stored) =
      rests_in_turn found mid (memo_cells_in new) ts (value_with ts stored) (there_too ts found (there same) found (all_there found differ)) keeps (seen same ts (value_with ts stored) r.kept) in
      record {
        whole = λ x h. r.whole x (ap (λ names. has_name names x) (names_same ts us same) ∙ h);
        kept = lines_may_change (memo_cells_in new) ts us stored kept same;
      }

  pub rests_put : (law : TextOfReplaced) → new.linked ≡ replaced old.linked found → RestsOnSame (memo_cells_in old) mid → RestsAtSame old new
  rests_put law texts seen =
      rests_on_found (λ same. seen)
      (λ same y t e. text_same (texts_of old) (texts_of new) same y ∙ ap (λ vs. text_of vs y) texts ∙ law (texts_of old) found y differ ∙ ap (λ o. or_text o (text_of (texts_of old) y)) e)

  pub rests_put_only : new.linked ≡ found → (SameTexts (texts_of old) (texts_of new) → RestsOnSame (memo_cells_in old) mid) → RestsAtSame old new
  rests_put_only texts seen = rests_on_found seen (λ same y t e. text_same (texts_of old) (texts_of new) same y ∙ ap (λ vs. text_of vs y) texts ∙ e)
