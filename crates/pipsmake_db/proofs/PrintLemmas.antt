-- Written texts, one after another.
use Rattle.std.proofs.Common.{◌≡◌, inl, inr, ℕ, true, ◌||◌, List, [], ◌∷◌, ◌++◌, Option, Some, None, refl, sym, ap, ◌∙◌, subst, append_assoc, append-nil}
use Rattle.std.specs.Prelude.{bytes_eq, codes}
use Rattle.std.specs.Cmp.Lexicographic.{bytes_decides}
use Rattle.std.specs.List.{list_any}
use Rattle.session_texts.specs.pipsmake_rules.declared.kind.Kind.TheVariants.{Printed}
use Rattle.session_texts.specs.pipsmake_rules.declared.key.Key.{Key}
use Rattle.session_texts.specs.pipsmake_rules.Keys.{holds}
use Rattle.session_texts.specs.pipsmake_rules.Neighbours.{has_name}
use Rattle.session_texts.specs.pipsmake_rules.Laws.{StandBehindNeeds}
use Rattle.session_texts.specs.pipsmake_rules.Walk.{depth_of}
use Rattle.session_texts.specs.roundtrip_programs.Laws.{TablesIgnorePlaces, GraphsIgnorePlaces}
use Rattle.session_texts.specs.Answers.{key_line, made_lines}
use Rattle.result_lines.specs.declared.show.Show.{Show}
use Rattle.session_texts.specs.pipsmake_meaning.Texts.{ModuleText, names_in, graph_of}
use Rattle.session_texts.specs.pipsmake_meaning.Session.{made_now}
use Rattle.session_texts.specs.pipsmake_meaning.MemoCells.{MemoCells}
use Rattle.session_texts.specs.pipsmake_meaning.Making.{BringsAll}
use Rattle.call_graph.specs.CallsIn.{Each}
use Rattle.laws_database.specs.Stands.{Valuation, StandsFor}
use Rattle.laws_database.specs.Unverified.{IsStored, IsWhole, RestsOn, value_with}
use Rattle.laws_database.specs.Laws.{CanMake, walk_in, TextsAreShown}
use Rattle.laws_database.specs.ProgramTexts.{text_named, texts_named, before_text}
use Rattle.result_store.specs.declared.row.Row.{Row}
use Rattle.result_store.specs.Rows.{memo_cells_of}
use Rattle.pipsmake_db.specs.declared.db.Db.{Db}
use Rattle.pipsmake_db.specs.declared.refusal.DbRefusal.{DbRefusal}
use Rattle.pipsmake_db.specs.declared.refusal.DbRefusal.TheVariants as db
use Rattle.pipsmake_db.specs.declared.walked.Walked.{Walked}
use Rattle.pipsmake_db.specs.Fresh.{keys_put}
use Rattle.pipsmake_db.specs.Kept.{text_kept}
use Rattle.pipsmake_db.specs.Outlines.{Outline, outline_of, after_printed}
use Rattle.pipsmake_db.specs.Refusals.{IsRefused, link_refusal}
use Rattle.pipsmake_db.specs.State.{State, IsIn, texts_of, memo_cells_in, after_make}
use Rattle.pipsmake_db.specs.Calls.{key, Rests}
use Rattle.pipsmake_db.specs.Shown.{printed_from, texts_from}
use Rattle.pipsmake_db.specs.declared.print.Prints.{Prints}
use Rattle.pipsmake_db.specs.Answers.{MakesPrinted}
use Rattle.pipsmake_db.specs.AnswerSteps.{PrintsOneFrom, PrintsAllFrom, PrintsStored, PrintsAnyway, PrintsAll}
use Rattle.pipsmake_db.specs.Walked.{walked_on, added, PrintsNext}
use Rattle.pipsmake_db.proofs.LinkLaws.{are_linked}
use Rattle.laws_database.proofs.Unverified.{IsKept}
use Rattle.laws_database.proofs.Whole.{graph_in_order}
use Rattle.session_texts.proofs.PipsmakeRules.WalkLaws.{complete}
use Rattle.pipsmake_db.proofs.ShowLaws.{text_is, text_stored}
use Rattle.pipsmake_db.proofs.WalkedLists.{both_hold, new_of, new_there, goes_on, added_are, stand_on}
use Rattle.pipsmake_db.proofs.UpToDate.{Within, each_join, puts_keep, puts_hold, put_whole}
use Rattle.pipsmake_db.proofs.WalkedLaws.{Covers, covers_none, none_before, onward, onward_stored}
use Rattle.fx_lists.proofs.Booleans.{or_true}

-- ---- no refusal

memory_alone : (why : Option DbRefusal) (r : DbRefusal) → why ≡ None → IsRefused why r → r ≡ db.Memory
memory_alone why db.NoSuchKind n h = cc
memory_alone why db.NoSuchName n h = cc
memory_alone why db.NotShown n h = cc
memory_alone why (db.Source line code keyword) n h = cc
memory_alone why (db.Link name line first code) n h = cc
memory_alone why db.Memory n h = refl

-- modules that link are printed but for want of memory
pub only_memory : (ts : List ModuleText) (r : DbRefusal) → link_refusal ts ≡ None → IsRefused (link_refusal ts) r → r ≡ db.Memory
only_memory ts r linked h = memory_alone (link_refusal ts) r linked h

-- ---- names that are there

abbrev pub AllThere : List (List ℕ) → List (List ℕ) → Type 0
AllThere names [] = Unit {0}
AllThere names (x ∷ xs) = (has_name names x ≡ true) × AllThere names xs

there_behind : (y : List ℕ) (names xs : List (List ℕ)) → AllThere names xs → AllThere (y ∷ names) xs
there_behind y names [] h = tt
there_behind y names (x ∷ xs) h = (ap (λ b. bytes_eq y x || b) h.0 ∙ or_true (bytes_eq y x), there_behind y names xs h.1)

pub all_there : (xs : List (List ℕ)) → AllThere xs xs
all_there [] = tt
all_there (x ∷ xs) = (ap (λ b. b || list_any (λ y. bytes_eq y x) xs) ((bytes_decides x x).1 refl), there_behind x xs xs (all_there xs))

pub others_there : (ts us : List ModuleText) (rest : List (List ℕ)) (x : List ℕ) (more : List (List ℕ)) → us ≡ ts → rest ≡ x ∷ more → AllThere (names_in ts) rest → AllThere (names_in us) more
others_there ts us rest x more same parts h = subst (λ (vs : List ModuleText). AllThere (names_in vs) more) (sym same) (subst (AllThere (names_in ts)) parts h).1

-- ---- one module more

-- what was walked is fresh, and so is what is put after it
fresh_there : (l walk fresh : List Key) → Within l fresh → Within (l ++ new_of l walk) (keys_put fresh walk)
fresh_there l walk fresh within j h =
    elim (both_hold l (new_of l walk) j h) [
      | inl f ↦ puts_keep walk fresh j (within j f)
      | inr f ↦ puts_hold walk fresh j (new_there l walk j f)
    ]

-- it was printed, and what was walked is covered
pub record NextPrinted (show : Show) (x : List ℕ) (s : State) (old new : Prints) (d : Db) (ks : List Key) : Type 0 where
  pub prints : PrintsOneFrom show x s old new d
  pub covers : Covers (memo_cells_in d) prints.next.texts prints.next.made ks
  pub fresh : Within ks prints.next.fresh

module _ (tables_law : TablesIgnorePlaces) (graphs_law : GraphsIgnorePlaces) (shown : TextsAreShown) where
  pub next_printed : (show : Show) (s : State) (x : List ℕ) (d e : Db) (ks : List Key) (after : Walked) (old new : Prints) → IsIn d s → has_name (names_in s.texts) x ≡ true → link_refusal s.texts ≡ None →
      Covers (memo_cells_in d) s.texts s.made ks → Within ks s.fresh → PrintsNext show x d e ks after old new → NextPrinted show x s old new e after.listed
  next_printed show s x d e ks after old new at there linked covers within p =
      let k : Key = key Printed x in
      let walk : List Key = walk_in s.texts k in
      let can : CanMake s.texts Printed x = (are_linked s.texts linked, there) in
      let are : added s.texts ks x ≡ new_of ks walk = added_are (names_in s.texts) (graph_of s.texts) ks covers.order (depth_of (graph_of s.texts)) k in
      let on : walked_on s.texts ks x ≡ ks ++ new_of ks walk = goes_on (names_in s.texts) (graph_of s.texts) ks covers.order (depth_of (graph_of s.texts)) k in
      let here : BringsAll (memo_cells_in d) s.texts (added s.texts ks x) p.now (memo_cells_in e) = subst (λ (us : List ModuleText). BringsAll (memo_cells_in d) us (added us ks x) p.now (memo_cells_in e)) at.texts p.brings in
      let brings : BringsAll (memo_cells_in d) s.texts (new_of ks walk) p.now (memo_cells_in e) = subst (λ (js : List Key). BringsAll (memo_cells_in d) s.texts js p.now (memo_cells_in e)) are here in
      let o = onward tables_law graphs_law (memo_cells_in d) (memo_cells_in e) s.texts s.made ks k p.now can at.stands covers brings in
      let walked : after.listed ≡ ks ++ new_of ks walk = p.walked.listed ∙ ap (λ (us : List ModuleText). walked_on us ks x) at.texts ∙ on in
      let fresh : e.fresh ≡ keys_put s.fresh walk =
      p.fresh ∙ ap (λ (f : List Key). keys_put f (added (texts_of d) ks x)) at.fresh ∙ ap (λ (us : List ModuleText). keys_put s.fresh (added us ks x)) at.texts
      ∙ ap (λ (js : List Key). keys_put s.fresh js) are ∙ put_whole ks walk s.fresh within in
      record {
        prints = record {
          now = p.now;
          text = p.text;
          next = after_make s k p.now;
          makes = (o.are_made, refl);
          is_in = record { texts = p.texts ∙ at.texts; stands = o.stands; fresh = fresh };
          is = sym (text_is shown (memo_cells_in e) s.texts at.stands.modules show x Printed can o.defined) ∙ (ap (λ (us : List ModuleText). text_kept (memo_cells_in e) us show Printed x) (sym at.texts) ∙ p.is);
          made = p.made;
          written = p.written;
        };
        covers = subst (λ (js : List Key). Covers (memo_cells_in e) s.texts (made_now s.made s.texts p.now) js) (sym walked) o.covers;
        fresh = λ j h. fresh_there ks walk s.fresh within j (subst (λ (js : List Key). holds js j ≡ true) walked h);
      }

-- ---- all modules

-- these modules are still to be printed
pub record SoFar (show : Show) (s : State) (rest : List (List ℕ)) (prints : Prints) (d : Db) (ks : List Key) : Type 0 where
  pub now : List Key
  pub mid : State
  pub is_in : IsIn d mid
  pub texts : mid.texts ≡ s.texts
  pub makes : (later : List Key) (t : State) → MakesPrinted mid rest later t → MakesPrinted s (names_in s.texts) (now ++ later) t
  pub made : prints.made ≡ made_lines now
  pub text : texts_named show s.texts (names_in s.texts) ≡ before_text (Some prints.text) (texts_named show s.texts rest)
  pub covers : Covers (memo_cells_in d) mid.texts mid.made ks
  pub fresh : Within ks mid.fresh

after_nothing : (o : Option (List ℕ)) → o ≡ before_text (Some []) o
after_nothing None = refl
after_nothing (Some t) = refl

pub none_yet : (show : Show) (s : State) (rest : List (List ℕ)) (prints : Prints) (d : Db) (ks : List Key) → IsIn d s → rest ≡ names_in (texts_of d) → prints.made ≡ [] → prints.text ≡ [] → ks ≡ [] → SoFar show s rest prints d ks
none_yet show s rest prints d ks at r m t none =
    let same : rest ≡ names_in s.texts = r ∙ ap names_in at.texts in
    record {
      now = [];
      mid = s;
      is_in = at;
      texts = refl;
      makes = λ later u h. subst (λ (ns : List (List ℕ)). MakesPrinted s ns later u) same h;
      made = m;
      text = ap (texts_named show s.texts) (sym same) ∙ after_nothing (texts_named show s.texts rest) ∙ ap (λ (a : List ℕ). before_text (Some a) (texts_named show s.texts rest)) (sym t);
      covers = subst (λ (js : List Key). Covers (memo_cells_in d) s.texts s.made js) (sym none) (covers_none (memo_cells_in d) s.texts s.made);
      fresh = subst (λ (js : List Key). Within js s.fresh) (sym none) (λ j e. cc);
    }

made_after : (ks js : List Key) → made_lines (ks ++ js) ≡ made_lines ks ++ made_lines js
made_after [] js = refl
made_after (k ∷ ks) js = ap (λ t. key_line (codes "made") k ++ t) (made_after ks js) ∙ sym (append_assoc (key_line (codes "made") k) (made_lines ks) (made_lines js))

before_both : (a b : List ℕ) (o : Option (List ℕ)) → before_text (Some a) (before_text (Some b) o) ≡ before_text (Some (a ++ b)) o
before_both a b None = refl
before_both a b (Some t) = ap (λ (u : List ℕ). Some u) (sym (append_assoc a b t))

pub one_more : (show : Show) (s : State) (x : List ℕ) (more : List (List ℕ)) (old new : Prints) (d e : Db) (ks js : List Key) → (h : SoFar show s (x ∷ more) old d ks) → NextPrinted show x h.mid old new e js → SoFar show s more new e js
one_more show s x more old new d e ks js h p =
    let o : PrintsOneFrom show x h.mid old new e = p.prints in
    let found : text_named show s.texts x ≡ Some o.text = subst (λ (ts : List ModuleText). text_named show ts x ≡ Some o.text) h.texts o.is in
    record {
      now = h.now ++ o.now;
      mid = o.next;
      is_in = o.is_in;
      texts = ap (λ (t : State). t.texts) o.makes.1 ∙ h.texts;
      makes = λ later t m. subst (λ (ks : List Key). MakesPrinted s (names_in s.texts) ks t) (sym (append_assoc h.now o.now later)) (h.makes (o.now ++ later) t (o.now, later, o.next, o.makes, m, refl));
      made = o.made ∙ ap (λ (l : List ℕ). l ++ made_lines o.now) h.made ∙ sym (made_after h.now o.now);
      text = h.text ∙ ap (λ (w : Option (List ℕ)). before_text (Some old.text) (before_text w (texts_named show s.texts more))) found ∙ before_both old.text o.text (texts_named show s.texts more)
          ∙ ap (λ (a : List ℕ). before_text (Some a) (texts_named show s.texts more)) (sym o.written);
      covers = p.covers;
      fresh = p.fresh;
    }

pub no_more : (show : Show) (s : State) (prints : Prints) (d : Db) (ks : List Key) → SoFar show s [] prints d ks → PrintsAllFrom show s prints d
no_more show s prints d ks h = record {
  now = h.now;
  next = h.mid;
  makes = subst (λ (ks : List Key). MakesPrinted s (names_in s.texts) ks h.mid) (append-nil h.now) (h.makes [] h.mid (refl, refl));
  is_in = h.is_in;
  made = h.made;
  text = h.text ∙ ap (λ (a : List ℕ). Some a) (append-nil prints.text);
}

-- ---- whatever is kept

-- these modules are still to be printed: what was walked is fresh, and each stands behind its needs
pub record SoFarAnyway (ts : List ModuleText) (first : Outline) (rest : List (List ℕ)) (prints : Prints) (d : Db) (ks : List Key) : Type 0 where
  pub texts : texts_of d ≡ ts
  pub order : StandBehindNeeds (names_in ts) (graph_of ts) ks
  pub within : Within ks d.fresh
  pub now : List Key
  pub made : prints.made ≡ made_lines now
  pub outline : after_printed (outline_of d) rest ≡ after_printed first (names_in ts)

pub none_anyway : (rest : List (List ℕ)) (prints : Prints) (d : Db) (ks : List Key) → rest ≡ names_in (texts_of d) → prints.made ≡ [] → ks ≡ [] → SoFarAnyway (texts_of d) (outline_of d) rest prints d ks
none_anyway rest prints d ks r m none = record {
  texts = refl;
  order = subst (StandBehindNeeds (names_in (texts_of d)) (graph_of (texts_of d))) (sym none) (none_before (texts_of d));
  within = subst (λ (js : List Key). Within js d.fresh) (sym none) (λ j e. cc);
  now = [];
  made = m;
  outline = ap (after_printed (outline_of d)) r;
}

-- where the database rests on stored results
pub record SoFarStored (ts : List ModuleText) (show : Show) (stored : Valuation) (rest : List (List ℕ)) (prints : Prints) (d : Db) (ks : List Key) : Type 0 where
  pub whole : IsWhole ts stored
  pub kept : RestsOn (memo_cells_in d) ts (value_with ts stored)
  pub known : Each (IsKept (value_with ts stored) (memo_cells_in d)) ks
  pub now : List Key
  pub none_stored : Each (λ (k : Key). IsStored k.kind → ⊥) now
  pub made : prints.made ≡ made_lines now
  pub text : texts_from ts stored show (names_in ts) ≡ before_text (Some prints.text) (texts_from ts stored show rest)

pub none_stored_yet : (show : Show) (stored : Valuation) (rest : List (List ℕ)) (prints : Prints) (d : Db) (ks : List Key) → Rests d stored → rest ≡ names_in (texts_of d) → prints.made ≡ [] → prints.text ≡ [] → ks ≡ [] →
    SoFarStored (texts_of d) show stored rest prints d ks
none_stored_yet show stored rest prints d ks rests r m t none =
    let ts : List ModuleText = texts_of d in
    record {
      whole = rests.whole;
      kept = rests.kept;
      known = subst (Each (IsKept (value_with ts stored) (memo_cells_in d))) (sym none) tt;
      now = [];
      none_stored = tt;
      made = m;
      text = ap (texts_from ts stored show) (sym r) ∙ after_nothing (texts_from ts stored show rest) ∙ ap (λ (a : List ℕ). before_text (Some a) (texts_from ts stored show rest)) (sym t);
    }

module _ (ts : List ModuleText) (show : Show) (x : List ℕ) (d e : Db) (ks : List Key) (after : Walked) (old new : Prints) (same : texts_of d ≡ ts) (order : StandBehindNeeds (names_in ts) (graph_of ts) ks) (p : PrintsNext show x d e ks after old new) where
  abbrev walk : List Key
  walk = walk_in ts (key Printed x)

  added_is : added ts ks x ≡ new_of ks walk
  added_is = added_are (names_in ts) (graph_of ts) ks order (depth_of (graph_of ts)) (key Printed x)

  walked_is : after.listed ≡ ks ++ new_of ks walk
  walked_is = p.walked.listed ∙ ap (λ (us : List ModuleText). walked_on us ks x) same ∙ goes_on (names_in ts) (graph_of ts) ks order (depth_of (graph_of ts)) (key Printed x)

  pub more_anyway : (first : Outline) (more : List (List ℕ)) → SoFarAnyway ts first (x ∷ more) old d ks → SoFarAnyway ts first more new e after.listed
  more_anyway first more h =
      let fresh : e.fresh ≡ keys_put d.fresh walk = p.fresh ∙ ap (λ (us : List ModuleText). keys_put d.fresh (added us ks x)) same ∙ ap (keys_put d.fresh) added_is ∙ put_whole ks walk d.fresh h.within in
      let texts : texts_of e ≡ ts = p.texts ∙ same in
      let whole : walk ≡ walk_in (texts_of d) (key Printed x) = ap (λ (us : List ModuleText). walk_in us (key Printed x)) (sym same) in
      let put : e.fresh ≡ keys_put d.fresh (walk_in (texts_of d) (key Printed x)) = fresh ∙ ap (keys_put d.fresh) whole in
      let next : outline_of e ≡ record { texts = texts_of d; fresh = keys_put d.fresh (walk_in (texts_of d) (key Printed x)) } = (λ i. record { texts = p.texts i; fresh = put i }) in
      record {
        texts = texts;
        order = subst (StandBehindNeeds (names_in ts) (graph_of ts)) (sym walked_is) (stand_on (names_in ts) (graph_of ts) ks order walk (complete (names_in ts) (graph_of ts) (key Printed x) (graph_in_order ts)).0);
        within = subst (λ (js : List Key). Within js e.fresh) (sym walked_is) (subst (Within (ks ++ new_of ks walk)) (sym fresh) (fresh_there ks walk d.fresh h.within));
        now = h.now ++ p.now;
        made = p.made ∙ ap (λ (l : List ℕ). l ++ made_lines p.now) h.made ∙ sym (made_after h.now p.now);
        outline = ap (λ (o : Outline). after_printed o more) next ∙ h.outline;
      }

  pub more_stored : has_name (names_in ts) x ≡ true → link_refusal ts ≡ None → (stored : Valuation) (more : List (List ℕ)) → SoFarStored ts show stored (x ∷ more) old d ks → SoFarStored ts show stored more new e after.listed
  more_stored there linked stored more h =
      let can : CanMake ts Printed x = (are_linked ts linked, there) in
      let here : BringsAll (memo_cells_in d) ts (added ts ks x) p.now (memo_cells_in e) = subst (λ (us : List ModuleText). BringsAll (memo_cells_in d) us (added us ks x) p.now (memo_cells_in e)) same p.brings in
      let brings : BringsAll (memo_cells_in d) ts (new_of ks walk) p.now (memo_cells_in e) = subst (λ (js : List Key). BringsAll (memo_cells_in d) ts js p.now (memo_cells_in e)) added_is here in
      let o = onward_stored (memo_cells_in d) (memo_cells_in e) ts stored ks (key Printed x) p.now can h.whole h.kept order h.known brings in
      let shown : printed_from ts stored show x ≡ Some p.text = sym (text_stored (memo_cells_in e) ts stored o.rests show x Printed can) ∙ (ap (λ (us : List ModuleText). text_kept (memo_cells_in e) us show Printed x) (sym same) ∙ p.is) in
      record {
        whole = h.whole;
        kept = o.rests;
        known = subst (Each (IsKept (value_with ts stored) (memo_cells_in e))) (sym walked_is) o.known;
        now = h.now ++ p.now;
        none_stored = each_join (λ (k : Key). IsStored k.kind → ⊥) h.now p.now h.none_stored o.none_stored;
        made = p.made ∙ ap (λ (l : List ℕ). l ++ made_lines p.now) h.made ∙ sym (made_after h.now p.now);
        text = h.text ∙ ap (λ (w : Option (List ℕ)). before_text (Some old.text) (before_text w (texts_from ts stored show more))) shown ∙ before_both old.text p.text (texts_from ts stored show more)
            ∙ ap (λ (a : List ℕ). before_text (Some a) (texts_from ts stored show more)) (sym p.written);
      }

pub prints_anyway : (d e : Db) (prints : Prints) (ks : List Key) → SoFarAnyway (texts_of d) (outline_of d) [] prints e ks → PrintsAnyway d e prints
prints_anyway d e prints ks h = record { now = h.now; made = h.made; outline = h.outline }

rests_at : (sh : MemoCells) (ts us : List ModuleText) (stored : Valuation) → us ≡ ts → IsWhole ts stored → RestsOn sh ts (value_with ts stored) → IsWhole us stored × RestsOn sh us (value_with us stored)
rests_at sh ts us stored same whole kept = (subst (λ (vs : List ModuleText). IsWhole vs stored) (sym same) whole, subst (λ (vs : List ModuleText). RestsOn sh vs (value_with vs stored)) (sym same) kept)

pub prints_stored : (ts : List ModuleText) (show : Show) (stored : Valuation) (e : Db) (prints : Prints) (ks : List Key) → texts_of e ≡ ts → SoFarStored ts show stored [] prints e ks → PrintsStored show stored prints e
prints_stored ts show stored e prints ks same h =
    let r = rests_at (memo_cells_in e) ts (texts_of e) stored same h.whole h.kept in
    let text : texts_from ts stored show (names_in ts) ≡ Some prints.text = h.text ∙ ap (λ (a : List ℕ). Some a) (append-nil prints.text) in
    record {
      rests = record { whole = r.0; kept = r.1 };
      now = h.now;
      none_stored = h.none_stored;
      made = h.made;
      text = subst (λ (us : List ModuleText). texts_from us stored show (names_in us) ≡ Some prints.text) (sym same) text;
    }

-- ---- over the links that were taken out

rests_same_db : (d e : Db) (stored : Valuation) → e.linked ≡ d.linked → e.store ≡ d.store → Rests d stored → Rests e stored
rests_same_db d e stored linked store r =
    let q = rests_at (memo_cells_in e) (texts_of d) (texts_of e) stored linked r.whole (subst (λ (rows : List Row). RestsOn (memo_cells_of rows) (texts_of d) (value_with (texts_of d) stored)) (sym store) r.kept) in
    record { whole = q.0; kept = q.1 }

is_in_same : (d e : Db) (s : State) → e.linked ≡ d.linked → e.store ≡ d.store → e.fresh ≡ d.fresh → IsIn d s → IsIn e s
is_in_same d e s linked store fresh at = record {
  texts = linked ∙ at.texts;
  stands = subst (λ (rows : List Row). StandsFor (memo_cells_of rows) s.texts s.made) (sym store) at.stands;
  fresh = fresh ∙ at.fresh;
}

pub prints_linked : (show : Show) (old mid after new : Db) (prints : Prints) → mid.linked ≡ old.linked → mid.store ≡ old.store → mid.fresh ≡ old.fresh → new.linked ≡ after.linked → new.store ≡ after.store → new.fresh ≡ after.fresh →
    PrintsAll show mid after prints → PrintsAll show old new prints
prints_linked show old mid after new prints same store fresh back kept still p = record {
  texts = back ∙ p.texts ∙ same;
  anyway = (let first : outline_of mid ≡ outline_of old = (λ i. record { texts = same i; fresh = fresh i }) in let last : outline_of new ≡ outline_of after = (λ i. record { texts = back i; fresh = still i }) in
      record { now = p.anyway.now; made = p.anyway.made; outline = last ∙ p.anyway.outline ∙ ap (λ (o : Outline). after_printed o (names_in o.texts)) first });
  rests = λ stored r. (let q = p.rests stored (rests_same_db old mid stored same store r) in record {
    rests = rests_same_db after new stored back kept q.rests;
    now = q.now;
    none_stored = q.none_stored;
    made = q.made;
    text = subst (λ (us : List ModuleText). texts_from us stored show (names_in us) ≡ Some prints.text) (sym back) q.text;
  });
  from = λ s at. (let o = p.from s (is_in_same old mid s same store fresh at) in record {
    now = o.now;
    next = o.next;
    makes = o.makes;
    is_in = is_in_same after new o.next back kept still o.is_in;
    made = o.made;
    text = o.text;
  });
}
