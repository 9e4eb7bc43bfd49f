use Rattle.std.proofs.Common.{◌≡◌, true, Ok, sym, ◌∙◌, ap}
use Rattle.base_text.specs.Modules.{known_names}
use Rattle.base_text.specs.Read.{base, base_of}
use Rattle.base_text.proofs.TakenBase.{same_known}
use Rattle.base_text.proofs.taken.is_text_of.Goals as goal

pub text_with-requires : goal.text_with-requires
text_with-requires c = same_known c.args.modules.now (known_names c.args.known.now) c.requires

pub returns : goal.returns
returns c =
    let ms = c.args.modules.now in
    let rs = c.args.results.now in
    let sound : c.in_ok-sound.sound ≡ true = cc in
    let read : base_of c.in_ok-written.written ≡ Ok (base ms rs) = c.in_ok-written.ensures.reads_back (c.in_ok-sound.ensures sound) in
    λ e. sym (ap base_of (c.is_same.ensures e)) ∙ read
