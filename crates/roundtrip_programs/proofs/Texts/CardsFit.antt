-- What is written of a module fits into lines, as what was read did.
use Rattle.std.proofs.Common.{◌≡◌, ℕ, ◌≤◌, List, length, refl, ap, ◌∙◌, arith, true, false}
use Rattle.std.specs.Prelude.{Ok}
use Rattle.std.specs.List.{list_all}
use Rattle.fixed_form.specs.Characters.{is_allowed}
use Rattle.f77_ast.specs.Trees.{ExprTree}
use Rattle.f77_statements.specs.Phrases.{PhraseTree, program, subroutine, function, specification, simple, logical_if, block_if, else_if, else_part, end_if, do_head, while_head, end_do, end_module}
use Rattle.f77_statements.specs.Statements.{phrase_of}
use Rattle.f77_printer.specs.Layout.{stripped}
use Rattle.roundtrip_programs.specs.Cards.Good.{IsText, IsBody}
use Rattle.roundtrip_programs.specs.Statements.Phrased.{IsPhrase}
use Rattle.roundtrip_programs.specs.Statements.Written.{phrase_text, as_written}
use Rattle.roundtrip_programs.proofs.Statements.Phrases.{statements_read_back}
use Rattle.roundtrip_programs.proofs.Statements.Fits.{statements_fit}
use Rattle.roundtrip_programs.specs.ModuleTexts.ModuleLaws.{MaybeLabel}
use Rattle.roundtrip_programs.proofs.ModuleTexts.Kept.{Kind}
use Rattle.roundtrip_programs.proofs.Cards.Fit.{stripped_allowed as stripped-allowed}

-- without its blanks the text is as long as lines may hold
pub record Fits (p : PhraseTree) : Type 0 where
  pub allowed : list_all is_allowed (phrase_text p) ≡ true
  pub short : length (stripped false (phrase_text p)) ≤ 1320

pub read-fits : (body : List ℕ) (p : PhraseTree) → IsBody body → phrase_of body ≡ Ok p → Fits p
read-fits body p b h =
    let l = statements_fit.shorter body p h in
    let s = b.short in
    record { allowed = statements_fit.allowed body p h b.allowed; short = omega arith }

written-fits : (p : PhraseTree) → Fits p → Fits (as_written p)
written-fits (program n) h = h
written-fits (subroutine n ds) h = h
written-fits (function form n ds) h = h
written-fits (specification d) h = h
written-fits (simple w) h = h
written-fits (logical_if e w) h = h
written-fits (block_if e) h = h
written-fits (else_if e) h = h
written-fits else_part h = h
written-fits end_if h = h
written-fits (do_head d) h = record { allowed = h.allowed; short = h.short }
written-fits (while_head l e) h = record { allowed = h.allowed; short = h.short }
written-fits end_do h = h
written-fits end_module h = h

first-fits : (e : ExprTree) → Fits (else_if e) → Fits (block_if e)
first-fits e h = let s = h.short in record { allowed = h.allowed; short = omega arith }

abbrev pub IsFitting : PhraseTree → Type 0
IsFitting p = IsPhrase p × Fits p

pub fitting : Kind MaybeLabel IsFitting Fits
fitting = record {
  bare = tt;
  formed = λ p h. h.0;
  written = λ p h. written-fits p h.1;
  first = first-fits;
  otherwise = record { allowed = refl; short = omega arith };
  end_branches = record { allowed = refl; short = omega arith };
  end_loop = record { allowed = refl; short = omega arith };
  end_all = record { allowed = refl; short = omega arith };
  labelled = record { allowed = refl; short = omega arith };
}

-- ---- so its lines hold it

pub card-back : (p : PhraseTree) → IsPhrase p → as_written p ≡ p → phrase_of (stripped false (phrase_text p)) ≡ Ok p
card-back p f e = statements_read_back.written_back p f ∙ ap (λ x. Ok x) e

pub card-text : (p : PhraseTree) → IsPhrase p → as_written p ≡ p → Fits p → IsText (phrase_text p)
card-text p f e h =
    statements_fit.fits (stripped false (phrase_text p)) p (record { allowed = stripped-allowed (phrase_text p) false h.allowed; short = h.short }) (card-back p f e)
