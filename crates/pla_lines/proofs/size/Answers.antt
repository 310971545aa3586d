-- The line ends in front of its newline, or with the text.
use Rattle.std.proofs.Common.{length, refl, ap, ◌∙◌, unwrap_or}
use Rattle.pla.specs.Texts.{is_newline}
use Rattle.pla_lines.proofs.Fronts.{front_or}
use Rattle.pla_lines.proofs.FirstLine.{in_line, line_size}
use Rattle.pla_lines.proofs.size.Goals as goal

pub returns : goal.returns
returns c =
    let t = c.args.text.now in
    c.unwrap_or.ensures ∙ ap (λ o. unwrap_or o (length t)) c.newline.ensures ∙ line_size _ t (front_or in_line is_newline (λ b. refl) t)
