-- Answers to single commands.
use Rattle.std.proofs.Common.{◌≡◌, ℕ, Bool, true, false, List, ◌++◌, Option, Some, None, Ok, Err, Result, refl, sym, ap, ◌∙◌, subst, append_assoc}
use Rattle.std.specs.Prelude.{◌≢◌, OnOk, IsSomeAnd, if◌then◌else◌}
use Rattle.f77_parser.specs.Gives.{Refused}
use Rattle.session_texts.specs.pipsmake_rules.declared.kind.Kind.{Kind}
use Rattle.session_texts.specs.pipsmake_rules.declared.key.Key.{Key}
use Rattle.session_texts.specs.pipsmake_rules.Kinds.{kind_with}
use Rattle.session_texts.specs.pipsmake_rules.Neighbours.{has_name}
use Rattle.session_texts.proofs.PipsmakeRules.KindLaws.{named}
use Rattle.session_texts.specs.declared.command.Command.TheVariants as command
use Rattle.session_texts.specs.declared.refusal.Refusal.TheVariants as refusal
use Rattle.session_texts.specs.Answers.{source_line, dropped_line, made_lines, ok_line, text_with_count}
use Rattle.session_texts.specs.Refusals.{refused_line}
use Rattle.result_lines.specs.declared.show.Show.{Show}
use Rattle.session_texts.specs.pipsmake_meaning.Texts.{ModuleText, names_in}
use Rattle.session_texts.specs.pipsmake_meaning.MemoCells.{MemoCells}
use Rattle.session_texts.specs.pipsmake_meaning.Making.{AllStay}
use Rattle.laws_database.specs.Stands.{Valuation, StandsFor}
use Rattle.laws_database.specs.Unverified.{IsWhole, RestsOn, value_with}
use Rattle.session_texts.specs.Changes.{without}
use Rattle.session_texts.specs.Sources.{source_modules}
use Rattle.pipsmake_db.specs.declared.db.Db.{Db}
use Rattle.pipsmake_db.specs.declared.db.Shown.{Shown}
use Rattle.pipsmake_db.specs.declared.refusal.DbRefusal.{DbRefusal}
use Rattle.pipsmake_db.specs.declared.refusal.DbRefusal.TheVariants as db
use Rattle.pipsmake_db.specs.State.{State, IsIn, texts_of, memo_cells_in, after_source, after_drop, after_make}
use Rattle.pipsmake_db.specs.Refusals.{IsRefused, or_else, owner_refusal, links_refusal, of_kind, refused_text, text_refusal, name_refusal, link_refusal, make_refusal, value_refusal}
use Rattle.pipsmake_db.specs.Shown.{text_for}
use Rattle.pipsmake_db.specs.Calls.{key, Stays, Rests, IsLeft, Replaces, Drops, MakesNamed, ShowsNamed}
use Rattle.pipsmake_db.specs.Outlines.{Outline, outline_of, after_printed, UnlessRefusedBy, OutlinesSource, OutlinesDrop, OutlinesMake, OutlinesShow, OutlinesPrint}
use Rattle.pipsmake_db.specs.Answers.{refusal_line, UnlessRefused, SourceAnswer, DropAnswer, MakeAnswer, ShowAnswer, OfKind, PrintAnswer}
use Rattle.pipsmake_db.specs.declared.print.Prints.{Prints as PrintsOf}
use Rattle.pipsmake_db.specs.AnswerTexts.{texts_with}
use Rattle.pipsmake_db.specs.AnswerSteps.{Answers, PrintsAll}

-- ---- outcomes

pub on_ok_both : {T E P Q R : Type 0} (r : Result T E) → (P → Q → R) → OnOk r P → OnOk r Q → OnOk r R
on_ok_both (Ok v) f h k = f h k
on_ok_both (Err e) f h k = h

-- ---- lists

-- what is appended twice
pub joined : (old middle new a b : List ℕ) → middle ≡ old ++ a → new ≡ middle ++ b → new ≡ old ++ (a ++ b)
joined old middle new a b m n = n ∙ ap (λ (t : List ℕ). t ++ b) m ∙ append_assoc old a b

-- ---- kinds

-- ---- refusals

-- a refusal that has to come, with its line, from a database that stays as it is
refused_so : (why : Option DbRefusal) (r : DbRefusal) (s : State) (accepted : List ℕ → State → Type 0) → why ≡ Some r → UnlessRefused why s accepted (refusal_line r) s
refused_so why r s accepted e = subst (λ (w : Option DbRefusal). UnlessRefused w s accepted (refusal_line r) s) (sym e) (refl, refl)

-- and what is left after it
record IsSaid (why : Option DbRefusal) (r : DbRefusal) (d e : Db) : Type 0 where
  pub why_so : why ≡ Some r
  pub stays : Stays d e

said : (why : Option DbRefusal) (r : DbRefusal) (d e : Db) → IsRefused why r → IsLeft d e r → (r ≡ db.Memory → ⊥) → IsSaid why r d e
said why db.NoSuchKind d e h left never = record { why_so = h; stays = left }
said why db.NoSuchName d e h left never = record { why_so = h; stays = left }
said why db.NotShown d e h left never = record { why_so = h; stays = left }
said why (db.Source line code keyword) d e h left never = record { why_so = h; stays = left }
said why (db.Link name line first code) d e h left never = record { why_so = h; stays = left }
said why db.Memory d e h left never = absurd (never refl)

-- what a refused source or drop leaves of the texts
unread : (ts : List ModuleText) (q : Result (List ModuleText) Refused) (r : DbRefusal) → refused_text q ≡ Some r → texts_with ts q ≡ ts
unread ts (Ok us) r e = cc
unread ts (Err x) r e = refl

undropped : (ts us : List ModuleText) (b : Bool) (r : DbRefusal) → (if b then None else Some db.NoSuchName) ≡ Some r → (if b then us else ts) ≡ ts
undropped ts us true r e = cc
undropped ts us false r e = refl

pub memo_cells_stay : (d e : Db) → AllStay (memo_cells_in d) (memo_cells_in e) → memo_cells_in e ≡ memo_cells_in d
memo_cells_stay d e h = λ i item x. h item x i

pub stays_resting : (d e : Db) (stored : Valuation) → Stays d e → Rests d stored → Rests e stored
stays_resting d e stored h r =
    let ts : List ModuleText = texts_of d in
    let kept : RestsOn (memo_cells_in e) ts (value_with ts stored) = subst (λ (sh : MemoCells). RestsOn sh ts (value_with ts stored)) (sym (memo_cells_stay d e h.kept)) r.kept in
    record { whole = subst (λ (us : List ModuleText). IsWhole us stored) (sym h.texts) r.whole; kept = subst (λ (us : List ModuleText). RestsOn (memo_cells_in e) us (value_with us stored)) (sym h.texts) kept }

pub stays_in : (d e : Db) (s : State) → Stays d e → IsIn d s → IsIn e s
stays_in d e s h is = record {
  texts = h.texts ∙ is.texts;
  stands = subst (λ (sh : MemoCells). StandsFor sh s.texts s.made) (sym (memo_cells_stay d e h.kept)) is.stands;
  fresh = h.fresh ∙ is.fresh;
}

-- ---- whatever is kept of results

outline_stays : (d e : Db) → Stays d e → outline_of e ≡ outline_of d
outline_stays d e h = λ i. record { texts = h.texts i; fresh = h.fresh i }

refused_anyway : (why : Option DbRefusal) (r : DbRefusal) (o p : Outline) (accepted : List ℕ → Outline → Type 0) → why ≡ Some r → p ≡ o → UnlessRefusedBy why o accepted (refusal_line r) p
refused_anyway why r o p accepted e same = subst (λ (w : Option DbRefusal). UnlessRefusedBy w o accepted (refusal_line r) p) (sym e) (refl, same)

accepted_anyway : (why : Option DbRefusal) (o p : Outline) (accepted : List ℕ → Outline → Type 0) (lines : List ℕ) → why ≡ None → accepted lines p → UnlessRefusedBy why o accepted lines p
accepted_anyway why o p accepted lines e h = subst (λ (w : Option DbRefusal). UnlessRefusedBy w o accepted lines p) (sym e) h

some_kind : (P : Kind → Type 0) (o : Option Kind) (k : Kind) → o ≡ Some k → P k → IsSomeAnd o P
some_kind P o k e h = subst (λ (p : Option Kind). IsSomeAnd p P) (sym e) h

-- ---- refused commands

pub refused_source : (text : List ℕ) (d e : Db) (old new : List ℕ) (r : DbRefusal) → IsRefused (text_refusal text) r → IsLeft d e r → new ≡ old ++ refusal_line r → r ≢ db.Memory → (show : Show) → Answers show (command.Source text) d e old new
refused_source text d e old new r refused left w never show = record {
  texts = (said (text_refusal text) r d e refused left never).stays.texts ∙ sym (unread (texts_of d) (source_modules text) r (said (text_refusal text) r d e refused left never).why_so);
  anyway = let h : IsSaid (text_refusal text) r d e = said (text_refusal text) r d e refused left never in record {
    lines = refusal_line r;
    outlines = refused_anyway (text_refusal text) r (outline_of d) (outline_of e) (OutlinesSource (outline_of d) text) h.why_so (outline_stays d e h.stays);
    written = w;
  };
  from = λ s is. let h : IsSaid (text_refusal text) r d e = said (text_refusal text) r d e refused left never in record {
    lines = refusal_line r;
    next = s;
    answers = refused_so (text_refusal text) r s (SourceAnswer s text) h.why_so;
    is_in = stays_in d e s h.stays is;
    written = w;
  };
}

pub refused_drop : (x : List ℕ) (d e : Db) (old new : List ℕ) (r : DbRefusal) → IsRefused (name_refusal (texts_of d) x) r → IsLeft d e r → new ≡ old ++ refusal_line r → r ≢ db.Memory → (show : Show) → Answers show (command.Drop x) d e old new
refused_drop x d e old new r refused left w never show = record {
  texts = (said (name_refusal (texts_of d) x) r d e refused left never).stays.texts ∙ sym (undropped (texts_of d) (without x (texts_of d)) (has_name (names_in (texts_of d)) x) r (said (name_refusal (texts_of d) x) r d e refused left never).why_so);
  anyway = let h : IsSaid (name_refusal (texts_of d) x) r d e = said (name_refusal (texts_of d) x) r d e refused left never in record {
    lines = refusal_line r;
    outlines = refused_anyway (name_refusal (texts_of d) x) r (outline_of d) (outline_of e) (OutlinesDrop (outline_of d) x) h.why_so (outline_stays d e h.stays);
    written = w;
  };
  from = λ s is. let h : IsSaid (name_refusal (texts_of d) x) r d e = said (name_refusal (texts_of d) x) r d e refused left never in record {
    lines = refusal_line r;
    next = s;
    answers = refused_so (name_refusal s.texts x) r s (DropAnswer s x) (subst (λ (ts : List ModuleText). name_refusal ts x ≡ Some r) is.texts h.why_so);
    is_in = stays_in d e s h.stays is;
    written = w;
  };
}

pub refused_make : (kind x : List ℕ) (d e : Db) (old new : List ℕ) (r : DbRefusal) → IsRefused (make_refusal (texts_of d) kind x) r → IsLeft d e r → new ≡ old ++ refusal_line r → r ≢ db.Memory → (show : Show) → Answers show (command.Make kind x) d e old new
refused_make kind x d e old new r refused left w never show = record {
  texts = (said (make_refusal (texts_of d) kind x) r d e refused left never).stays.texts;
  anyway = let h : IsSaid (make_refusal (texts_of d) kind x) r d e = said (make_refusal (texts_of d) kind x) r d e refused left never in record {
    lines = refusal_line r;
    outlines = refused_anyway (make_refusal (texts_of d) kind x) r (outline_of d) (outline_of e) (λ ls q. IsSomeAnd (kind_with kind) (λ k. OutlinesMake (outline_of d) (key k x) ls q)) h.why_so (outline_stays d e h.stays);
    written = w;
  };
  from = λ s is. let h : IsSaid (make_refusal (texts_of d) kind x) r d e = said (make_refusal (texts_of d) kind x) r d e refused left never in record {
    lines = refusal_line r;
    next = s;
    answers = refused_so (make_refusal s.texts kind x) r s (OfKind (λ k. MakeAnswer s k x) (kind_with kind)) (subst (λ (ts : List ModuleText). make_refusal ts kind x ≡ Some r) is.texts h.why_so);
    is_in = stays_in d e s h.stays is;
    written = w;
  };
}

pub refused_show : (show : Show) (kind x : List ℕ) (d e : Db) (old new : List ℕ) (r : DbRefusal) → IsRefused (value_refusal (texts_of d) kind x) r → IsLeft d e r → new ≡ old ++ refusal_line r → r ≢ db.Memory → Answers show (command.Show kind x) d e old new
refused_show show kind x d e old new r refused left w never = record {
  texts = (said (value_refusal (texts_of d) kind x) r d e refused left never).stays.texts;
  anyway = let h : IsSaid (value_refusal (texts_of d) kind x) r d e = said (value_refusal (texts_of d) kind x) r d e refused left never in record {
    lines = refusal_line r;
    outlines = refused_anyway (value_refusal (texts_of d) kind x) r (outline_of d) (outline_of e) (λ ls q. IsSomeAnd (kind_with kind) (λ k. OutlinesShow (outline_of d) (key k x) ls q)) h.why_so (outline_stays d e h.stays);
    written = w;
  };
  from = λ s is. let h : IsSaid (value_refusal (texts_of d) kind x) r d e = said (value_refusal (texts_of d) kind x) r d e refused left never in record {
    lines = refusal_line r;
    next = s;
    answers = refused_so (value_refusal s.texts kind x) r s (OfKind (λ k. ShowAnswer show s k x) (kind_with kind)) (subst (λ (ts : List ModuleText). value_refusal ts kind x ≡ Some r) is.texts h.why_so);
    is_in = stays_in d e s h.stays is;
    written = w;
  };
}

said_why : (why : Option DbRefusal) (r : DbRefusal) → IsRefused why r → r ≢ db.Memory → why ≡ Some r
said_why why db.NoSuchKind h never = h
said_why why db.NoSuchName h never = h
said_why why db.NotShown h never = h
said_why why (db.Source line code keyword) h never = h
said_why why (db.Link name line first code) h never = h
said_why why db.Memory h never = absurd (never refl)

pub refused_print : (show : Show) (d e : Db) (old new : List ℕ) (r : DbRefusal) → IsRefused (link_refusal (texts_of d)) r → Stays d e → new ≡ old ++ refusal_line r → r ≢ db.Memory → Answers show command.Print d e old new
refused_print show d e old new r refused stays w never = record {
  texts = stays.texts;
  anyway = record {
    lines = refusal_line r;
    outlines = refused_anyway (link_refusal (texts_of d)) r (outline_of d) (outline_of e) (OutlinesPrint (outline_of d)) (said_why (link_refusal (texts_of d)) r refused never) (outline_stays d e stays);
    written = w;
  };
  from = λ s is. record {
    lines = refusal_line r;
    next = s;
    answers = refused_so (link_refusal s.texts) r s (PrintAnswer show s) (subst (λ (ts : List ModuleText). link_refusal ts ≡ Some r) is.texts (said_why (link_refusal (texts_of d)) r refused never));
    is_in = stays_in d e s stays is;
    written = w;
  };
}

-- no kind has the name: nothing was asked of the database
pub unknown_kind : (kind x : List ℕ) (d : Db) (old new : List ℕ) → kind_with kind ≡ None → new ≡ old ++ refused_line refusal.NoSuchKind → (show : Show) → Answers show (command.Make kind x) d d old new
unknown_kind kind x d old new e w show = record {
  texts = refl;
  anyway = record {
    lines = refusal_line db.NoSuchKind;
    outlines = refused_anyway (make_refusal (texts_of d) kind x) db.NoSuchKind (outline_of d) (outline_of d) (λ ls q. IsSomeAnd (kind_with kind) (λ k. OutlinesMake (outline_of d) (key k x) ls q))
        (ap (of_kind (λ k. or_else (owner_refusal (texts_of d) k x) (links_refusal (texts_of d) k))) e) refl;
    written = w;
  };
  from = λ s is. record {
    lines = refusal_line db.NoSuchKind;
    next = s;
    answers = refused_so (make_refusal s.texts kind x) db.NoSuchKind s (OfKind (λ k. MakeAnswer s k x) (kind_with kind)) (ap (of_kind (λ k. or_else (owner_refusal s.texts k x) (links_refusal s.texts k))) e);
    is_in = is;
    written = w;
  };
}

-- ---- accepted commands

pub accepted_so : (why : Option DbRefusal) (s : State) (accepted : List ℕ → State → Type 0) (lines : List ℕ) (t : State) → why ≡ None → accepted lines t → UnlessRefused why s accepted lines t
accepted_so why s accepted lines t e h = subst (λ (w : Option DbRefusal). UnlessRefused w s accepted lines t) (sym e) h

pub source_read : (text : List ℕ) (d e : Db) (old new : List ℕ) (names : List (List ℕ)) → Replaces d e text names → new ≡ old ++ source_line names → (show : Show) → Answers show (command.Source text) d e old new
source_read text d e old new names h w show = record {
  texts = h.texts ∙ ap (texts_with (texts_of d)) (sym h.read);
  anyway = record {
    lines = source_line names;
    outlines = accepted_anyway (text_refusal text) (outline_of d) (outline_of e) (OutlinesSource (outline_of d) text) (source_line names) (ap refused_text h.read)
        (h.found, h.read, ap source_line h.named, λ i. record { texts = h.texts i; fresh = h.fresh i });
    written = w;
  };
  from = λ s is. record {
    lines = source_line names;
    next = after_source s h.found;
    answers = accepted_so (text_refusal text) s (SourceAnswer s text) (source_line names) (after_source s h.found) (ap refused_text h.read) (h.found, h.read, ap source_line h.named, refl);
    is_in = h.leads s is;
    written = w;
  };
}

pub module_dropped : (x : List ℕ) (d e : Db) (old new : List ℕ) → Drops d e x → new ≡ old ++ dropped_line x → (show : Show) → Answers show (command.Drop x) d e old new
module_dropped x d e old new h w show = record {
  texts = h.texts ∙ ap (λ b. if b then without x (texts_of d) else texts_of d) (sym h.was_there);
  anyway = record {
    lines = dropped_line x;
    outlines = accepted_anyway (name_refusal (texts_of d) x) (outline_of d) (outline_of e) (OutlinesDrop (outline_of d) x) (dropped_line x) (ap (λ b. if b then None else Some db.NoSuchName) h.was_there)
        (refl, λ i. record { texts = h.texts i; fresh = h.fresh i });
    written = w;
  };
  from = λ s is. record {
    lines = dropped_line x;
    next = after_drop s x;
    answers = accepted_so (name_refusal s.texts x) s (DropAnswer s x) (dropped_line x) (after_drop s x) (no_refusal s is) (refl, refl);
    is_in = h.leads s is;
    written = w;
  };
}
  where
    no_refusal : (s : State) → IsIn d s → name_refusal s.texts x ≡ None
    no_refusal s is = subst (λ (ts : List ModuleText). name_refusal ts x ≡ None) is.texts (ap (λ b. if b then None else Some db.NoSuchName) h.was_there)

of_kind_found : (answers : Kind → List ℕ → State → Type 0) (o : Option Kind) (k : Kind) (lines : List ℕ) (t : State) → o ≡ Some k → answers k lines t → OfKind answers o lines t
of_kind_found answers o k lines t e h = subst (λ (p : Option Kind). OfKind answers p lines t) (sym e) h

pub result_made : (kind x : List ℕ) (k : Kind) (d e : Db) (old new : List ℕ) (now : List Key) → kind_with kind ≡ Some k → MakesNamed d e kind x now → new ≡ old ++ (made_lines now ++ ok_line (key k x)) →
    (show : Show) → Answers show (command.Make kind x) d e old new
result_made kind x k d e old new now found h w show = record {
  texts = (h.1 k found).texts;
  anyway = let m = h.1 k found in record {
    lines = made_lines now ++ ok_line (key k x);
    outlines = accepted_anyway (make_refusal (texts_of d) kind x) (outline_of d) (outline_of e) (λ ls q. IsSomeAnd (kind_with kind) (λ j. OutlinesMake (outline_of d) (key j x) ls q)) (made_lines now ++ ok_line (key k x)) h.0
        (some_kind (λ j. OutlinesMake (outline_of d) (key j x) (made_lines now ++ ok_line (key k x)) (outline_of e)) (kind_with kind) k found (now, refl, λ i. record { texts = m.texts i; fresh = m.fresh i }));
    written = w;
  };
  from = λ s is. record {
    lines = made_lines now ++ ok_line (key k x);
    next = after_make s (key k x) now;
    answers = accepted_so (make_refusal s.texts kind x) s (OfKind (λ j. MakeAnswer s j x) (kind_with kind)) _ _ (subst (λ (ts : List ModuleText). make_refusal ts kind x ≡ None) is.texts h.0)
        (of_kind_found (λ j. MakeAnswer s j x) (kind_with kind) k _ _ found (now, (((h.1 k found).leads s is).made, refl), refl));
    is_in = ((h.1 k found).leads s is).next;
    written = w;
  };
}

there_of : (why : Kind → Option DbRefusal) (o : Option Kind) → of_kind why o ≡ None → (k : Kind) × (o ≡ Some k)
there_of why None e = cc
there_of why (Some k) e = (k, refl)

pub result_shown : (show : Show) (kind x : List ℕ) (d e : Db) (old new : List ℕ) (shown : Shown) → ShowsNamed d e kind x show shown → new ≡ old ++ (made_lines shown.made ++ shown.text) →
    Answers show (command.Show kind x) d e old new
result_shown show kind x d e old new shown h w = go (there_of _ (kind_with kind) h.0)
  where
    go : (k : Kind) × (kind_with kind ≡ Some k) → Answers show (command.Show kind x) d e old new
    go (k, found) = record {
      texts = (h.1 k found).makes.texts;
      anyway = let m = (h.1 k found).makes in record {
        lines = made_lines shown.made ++ shown.text;
        outlines = accepted_anyway (value_refusal (texts_of d) kind x) (outline_of d) (outline_of e) (λ ls q. IsSomeAnd (kind_with kind) (λ j. OutlinesShow (outline_of d) (key j x) ls q)) (made_lines shown.made ++ shown.text) h.0
            (some_kind (λ j. OutlinesShow (outline_of d) (key j x) (made_lines shown.made ++ shown.text) (outline_of e)) (kind_with kind) k found (shown.made, shown.text, refl, λ i. record { texts = m.texts i; fresh = m.fresh i }));
        written = w;
      };
      from = λ s is. let all = h.1 k found in record {
        lines = made_lines shown.made ++ shown.text;
        next = after_make s (key k x) shown.made;
        answers = accepted_so (value_refusal s.texts kind x) s (OfKind (λ j. ShowAnswer show s j x) (kind_with kind)) _ _ (subst (λ (ts : List ModuleText). value_refusal ts kind x ≡ None) is.texts h.0)
            (of_kind_found (λ j. ShowAnswer show s j x) (kind_with kind) k _ _ found
            (shown.made, shown.text, ((all.makes.leads s is).made, refl), subst (λ (ts : List ModuleText). text_for ts show k x ≡ Some shown.text) is.texts (all.text s is), refl));
        is_in = (all.makes.leads s is).next;
        written = w;
      };
    }

pub all_printed : (show : Show) (d between e : Db) (old new : List ℕ) (prints : PrintsOf) → link_refusal (texts_of d) ≡ None → Stays d between → PrintsAll show between e prints →
    new ≡ old ++ (prints.made ++ text_with_count prints.text) → Answers show command.Print d e old new
all_printed show d between e old new prints none stay all w = record {
  texts = all.texts ∙ stay.texts;
  anyway = record {
    lines = prints.made ++ text_with_count prints.text;
    outlines = accepted_anyway (link_refusal (texts_of d)) (outline_of d) (outline_of e) (OutlinesPrint (outline_of d)) (prints.made ++ text_with_count prints.text) none
        (all.anyway.now, prints.text, ap (λ m. m ++ text_with_count prints.text) all.anyway.made, all.anyway.outline ∙ ap (λ (o : Outline). after_printed o (names_in o.texts)) (outline_stays d between stay));
    written = w;
  };
  from = λ s is. let p = all.from s (stays_in d between s stay is) in record {
    lines = prints.made ++ text_with_count prints.text;
    next = p.next;
    answers = accepted_so (link_refusal s.texts) s (PrintAnswer show s) _ _ (subst (λ (ts : List ModuleText). link_refusal ts ≡ None) is.texts none)
        (p.now, prints.text, p.makes, p.text, ap (λ m. m ++ text_with_count prints.text) p.made);
    is_in = p.is_in;
    written = w;
  };
}
