-- Two statements with a comment, as they are written and read.
use Rattle.std.proofs.Common.{◌≡◌, List, [], ◌∷◌, refl, arith, Some, None}
use Rattle.std.specs.Prelude.{codes, Ok}
use Rattle.fixed_form.specs.Reading.{reading}
use Rattle.roundtrip_programs.specs.Cards.Cards.{Card, cards_text, lines_from}
use Rattle.roundtrip_programs.specs.Cards.Good.{AreCards}
use Rattle.roundtrip_programs.proofs.Cards.Whole.{lines_read_back}

both : List Card
both = record { comments = codes "C twice" ∷ codes "C> P {}" ∷ []; label = Some 10; text = codes "PRINT *,'a b'" } ∷ record { comments = []; label = None; text = codes "END" } ∷ []

good : AreCards both
unfolding both
good = record {
  first = record {
    comments = record {
      first = record { comment = refl; one_line = refl; no_return = refl };
      others = record { first = record { comment = refl; one_line = refl; no_return = refl }; others = tt };
    };
    label = (omega arith, omega arith);
    text = record { allowed = refl; front = refl; lined = λ u. refl; tabless = λ u. refl; fits = omega arith };
  };
  others = record {
    first = record { comments = tt; label = tt; text = record { allowed = refl; front = refl; lined = λ u. refl; tabless = λ u. refl; fits = omega arith } };
    others = tt;
  };
}

read_so : reading (cards_text both []) ≡ Ok (record { lines = lines_from 1 both; closing = [] })
unfolding both
read_so = lines_read_back both [] good tt refl

-- their lines are numbered from 1, and the comment that is dropped counts
lines_are : lines_from 1 both
    ≡ record { first = 3; last = 3; label = Some 10; body = codes "PRINT*,'a b'"; comments = codes "C twice" ∷ [] }
    ∷ record { first = 4; last = 4; label = None; body = codes "END"; comments = [] } ∷ []
unfolding both
lines_are = refl
