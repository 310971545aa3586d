-- Where the run over the fields has come to, one stage behind another: behind the marks, the class, the either combinations, what is held and the profile.
-- Each stage is that before it and what was read behind that; what is refused there is what reading answers, and so is the sheet of all that was read.
use Rattle.std.proofs.Common.{◌≡◌, ◌∙◌, subst, ℕ, ◌≤◌, ◌<◌, List, length, replicate}
use Rattle.std.specs.Prelude.{Ok}
use Rattle.refusals.specs.Numbers.{number_of, place_of}
use Rattle.refusals.specs.declared.Refusal.{Refusal}
use Rattle.refusals.specs.declared.Refusal.TheVariants.{Unreadable}
use Rattle.tables.specs.Tables.{entry}
use Rattle.profiles.specs.declared.Profile.{Profile}
use Rattle.sheet.specs.Limits.{most_marks, entries}
use Rattle.sheet.specs.Parts.{Addable}
use Rattle.sheet.specs.Record.{Record, opened, sheet_from}
use Rattle.sheet.specs.declared.Sheet.{Sheet}
use Rattle.sheet.proofs.Opening.{same-entry, ones_addable}
use Rattle.stored.specs.Answers.{ReadsBy}
use Rattle.stored.specs.Fields.{Bytes, due, count, end, rest_due, good, refused, ReadingBy}
use Rattle.stored.specs.Parts.{Neither}
use Rattle.stored.specs.Sections.{Rest}
use Rattle.stored.specs.Told.{read_as}
use Rattle.stored.specs.declared.Layout.{Layout}
use Rattle.stored.specs.declared.Section.TheVariants.{Class, Held}
use Rattle.sections.specs.Parts.{Leads, Stops, ReadBefore, Got, Missed, Begun}
use Rattle.sections.specs.Places.{offset_of}
use Rattle.sections.specs.declared.form.Form.{Form}
use Rattle.sections.proofs.Offsets.{then, then_stops, left_over, all_read}
use Rattle.reading.specs.Parts.{EitherFound, EitherMissed, EndFound, EndMissed}
use Rattle.reading.proofs.Whole.{behind_class, behind_held, marks_taken, class_read, standings_read, held_read, whole_record, before_class, before_held, EitherGot, either_found, either_missed, end_found, end_missed, times_addable, outs_addable, read_answered}

none_barred : (m : ℕ) → m ≤ 5 → ReadBefore Class m (replicate 32 0) (opened m)
none_barred m few = before_class m (replicate 32 0) (λ k l. same-entry m 0 k few l)

module _ (layout : Layout) {t : List ℕ} {f : Form} (b : Begun t f) where
  -- the run from behind the marks stops, and so does all of it
  stopped : (e : Refusal)
      → Stops (due (count Class (behind_class layout) (opened f.marks))) f.fields e → ReadingBy layout most_marks t (refused (number_of e) (place_of e))
  stopped e w = marks_taken layout b (refused (number_of e) (place_of e)) w.run

  pub class_refused : (e : Refusal)
      → Missed Class f.marks (replicate 32 0) (λ (rest : Rest) (q : Record). due (count Class rest q)) f.fields e → ReadingBy layout most_marks t (refused (number_of e) (place_of e))
  class_refused e w = stopped e (w.stops (behind_class layout) (opened f.marks) (none_barred f.marks f.few))

  module _ (f₂ : Form) (same₂ : f₂.marks ≡ f.marks) {ins : List ℕ}
      (class : Got Class f.marks (replicate 32 0) (λ (rest : Rest) (q : Record). due (count Class rest q)) rest_due f.fields f₂.fields ins) where
    past_class : Leads (due (count Class (behind_class layout) (opened f.marks))) f.fields (rest_due (behind_class layout) (class_read f.marks ins)) f₂.fields
    past_class = class.leads (behind_class layout) (opened f.marks) (none_barred f.marks f.few)

    pub either_refused : (e : Refusal)
        → EitherMissed layout f₂.marks ins f₂.fields e → ReadingBy layout most_marks t (refused (number_of e) (place_of e))
    either_refused e w =
        stopped e
        (then_stops past_class (either_missed layout f.marks ins f₂.fields e (subst (λ (m : ℕ). EitherMissed layout m ins f₂.fields e) same₂ w)))

    module _ (f₃ : Form) (same₃ : f₃.marks ≡ f₂.marks) (either : List ℕ) (found : EitherFound layout f₂.marks ins f₂.fields f₃.fields either) where
      got : EitherGot layout f.marks ins f₂.fields f₃.fields either
      got =
          either_found layout f.marks ins f₂.fields f₃.fields either
          (subst (λ (m : ℕ). EitherFound layout m ins f₂.fields f₃.fields either) same₂ found)

      past_either : Leads (due (count Class (behind_class layout) (opened f.marks))) f.fields (due (count Held (behind_held layout) (standings_read f.marks ins either))) f₃.fields
      past_either = then past_class got.leads

      pub held_refused : (e : Refusal)
          → Missed Held f₃.marks either (λ (rest : Rest) (q : Record). due (count Held rest q)) f₃.fields e → ReadingBy layout most_marks t (refused (number_of e) (place_of e))
      held_refused e w =
          let v = subst (λ (m : ℕ). Missed Held m either (λ (rest : Rest) (q : Record). due (count Held rest q)) f₃.fields e) (same₃ ∙ same₂) w in
          stopped e
          (then_stops past_either (v.stops (behind_held layout) (standings_read f.marks ins either) (before_held f.marks ins either)))

      module _ (f₄ : Form) (same₄ : f₄.marks ≡ f₃.marks) (times : List ℕ)
          (read : Got Held f₃.marks either (λ (rest : Rest) (q : Record). due (count Held rest q)) rest_due f₃.fields f₄.fields times) where
        held : Got Held f.marks either (λ (rest : Rest) (q : Record). due (count Held rest q)) rest_due f₃.fields f₄.fields times
        held = subst (λ (m : ℕ). Got Held m either (λ (rest : Rest) (q : Record). due (count Held rest q)) rest_due f₃.fields f₄.fields times) (same₃ ∙ same₂) read

        past_held : Leads (due (count Class (behind_class layout) (opened f.marks))) f.fields (rest_due (behind_held layout) (held_read f.marks ins either times)) f₄.fields
        past_held = then past_either (held.leads (behind_held layout) (standings_read f.marks ins either) (before_held f.marks ins either))

        pub end_refused : (e : Refusal)
            → EndMissed layout f₄.marks either f₄.fields e → ReadingBy layout most_marks t (refused (number_of e) (place_of e))
        end_refused e w =
            stopped e
            (then_stops past_held
            (end_missed f.marks ins either times layout f₄.fields e (subst (λ (m : ℕ). EndMissed layout m either f₄.fields e) (same₄ ∙ same₃ ∙ same₂) w)))

        module _ (f₅ : Form) (p : Profile) (last : EndFound layout f₄.marks either f₄.fields f₅.fields p) where
          past_profile : Leads (due (count Class (behind_class layout) (opened f.marks))) f.fields (end (whole_record f.marks ins either times p)) f₅.fields
          past_profile =
              then past_held
              (end_found f.marks ins either times layout f₄.fields f₅.fields p
              (subst (λ (m : ℕ). EndFound layout m either f₄.fields f₅.fields p) (same₄ ∙ same₃ ∙ same₂) last))

          pub left_refused : 0 < length f₅.fields.rest.now → ReadingBy layout most_marks t (refused 10 (offset_of f₅.fields))
          left_refused some =
              stopped (Unreadable (offset_of f₅.fields)) (then_stops past_profile (left_over (whole_record f.marks ins either times p) f₅.fields some))

          module _ (none : length f₅.fields.rest.now ≡ 0) where
            whole_run : ReadingBy layout most_marks t (good (whole_record f.marks ins either times p))
            whole_run =
                marks_taken layout b (good (whole_record f.marks ins either times p))
                (past_profile.on (good (whole_record f.marks ins either times p)) (all_read (whole_record f.marks ins either times p) f₅.fields none))

            module _ {outs : List ℕ} (third : Neither ins either outs) where
              pub all_addable : Bytes t → (f.marks ≤ most_marks) × Addable f.marks outs × Addable f.marks either × Addable f.marks times
              all_addable bytes = (
                f.few,
                outs_addable f.marks ins either times p third f.few,
                ones_addable f.marks either f.few got.long got.ones,
                times_addable f.marks ins either times p layout held.long bytes whole_run,
              )

              pub whole_read : {s : Sheet} → s ≡ sheet_from entries f.marks p (entry outs) (entry either) (entry times)
                  → ReadsBy layout most_marks entries t (read_as (Ok s))
              whole_read e = record {
                outcome = good (whole_record f.marks ins either times p);
                run = whole_run;
                is = read_answered f.marks ins either times p third f.few class.most got.ones e;
              }
