-- What the parts of the reader tell each other. f and g are the cursors before them and behind them.
use Rattle.std.specs.Prelude.{ℕ, ◌^◌, ◌≤◌, ◌<◌, ◌≡◌, true, List, ltb, length, Result, Ok, MatchResult}
use Rattle.tables.specs.Tables.{entry}
use Rattle.profiles.specs.Profiles.{breaks}
use Rattle.profiles.specs.declared.Profile.{Profile}
use Rattle.profiles.specs.declared.Profile.TheVariants.{None}
use Rattle.classes.specs.Standings.{is_either}
use Rattle.refusals.specs.Numbers.{number_of, place_of}
use Rattle.refusals.specs.declared.Refusal.{Refusal}
use Rattle.sheet.specs.Limits.{most_marks, entries}
use Rattle.sheet.specs.Parts.{Addable}
use Rattle.sheet.specs.Record.{Record, with_profile, sheet_from}
use Rattle.sheet.specs.declared.Sheet.{Sheet}
use Rattle.stored.specs.Answers.{ReadsBy}
use Rattle.stored.specs.Told.{read_as}
use Rattle.stored.specs.Sections.{Rest}
use Rattle.stored.specs.Fields.{Next, due, count, group, rest_due, perhaps, complete, end, groups_due, refused, ReadingBy}
use Rattle.stored.specs.declared.Section.TheVariants.{Either}
use Rattle.stored.specs.declared.Layout.{Layout}
use Rattle.stored.specs.declared.Layout.TheVariants.{First, Today}
use Rattle.sections.specs.Parts.{Leads, Stops, Got, Missed}
use Rattle.sections.specs.declared.form.Form.{Form}
use Rattle.sections.specs.declared.fields.Fields.{Fields}
use Rattle.reading.specs.declared.Parts.{Parts}

-- nothing is read, and no combination is either
pub record NoneRead (m : ℕ) (f g : Fields) (own : List ℕ) : Type 0 where
  pub stays : g ≡ f
  pub none : (c : ℕ) → c < 2 ^ m → entry own c ≡ 0
  pub long : 2 ^ m ≤ length own

-- the either section behind a class of these combinations; 01's layout has none
abbrev pub EitherFound : Layout → ℕ → List ℕ → Fields → Fields → List ℕ → Type 0
EitherFound First m ins f g own = NoneRead m f g own
EitherFound Today m ins f g own = Got Either m ins (λ (rest : Rest) (r : Record). due (count Either rest r)) rest_due f g own

abbrev pub EitherMissed : Layout → ℕ → List ℕ → Fields → Refusal → Type 0
EitherMissed First m ins f e = ⊥
EitherMissed Today m ins f e = Missed Either m ins (λ (rest : Rest) (r : Record). due (count Either rest r)) f e

abbrev pub EitherRead : Layout → List ℕ → Form → Form → Result (List ℕ) Refusal → Type 0
EitherRead layout ins f g result =
    MatchResult result (λ own. (g.marks ≡ f.marks) × EitherFound layout f.marks ins f.fields g.fields own) (λ e. EitherMissed layout f.marks ins f.fields e)

-- Some groups that were read: the run leads from one field to another, whatever record R was read before them; they make its profile.
pub record Carried (R : Record → Type 0) (from to : Record → Next) (f g : Fields) (p : Profile) : Type 0 where
  pub leads : (r : Record) → R r → Leads (from r) f (to (with_profile p r)) g

-- some that are refused
pub record Dropped (R : Record → Type 0) (from : Record → Next) (f : Fields) (e : Refusal) : Type 0 where
  pub stops : (r : Record) → R r → Stops (from r) f e

-- a record of m marks with a profile
pub record With (m : ℕ) (p : Profile) (r : Record) : Type 0 where
  pub marks : r.marks ≡ m
  pub profile : r.profile ≡ p

-- a group behind those of a profile, with `left` more behind it; and n groups
abbrev pub GroupRead : Profile → Form → Form → Result Profile Refusal → Type 0
GroupRead p f g result =
    MatchResult result
    (λ q. (g.marks ≡ f.marks) × ((start left : ℕ) → Carried (With f.marks p) (λ (r : Record). due (group r start left)) (λ (r : Record). groups_due r start left) f.fields g.fields q))
    (λ e. (start left : ℕ) → Dropped (With f.marks p) (λ (r : Record). due (group r start left)) f.fields e)

abbrev pub GroupsRead : ℕ → Form → Form → Result Profile Refusal → Type 0
GroupsRead n f g result =
    MatchResult result
    (λ q. (g.marks ≡ f.marks) × ((start : ℕ) → Carried (With f.marks None) (λ (r : Record). groups_due r start n) (λ (r : Record). complete r start) f.fields g.fields q))
    (λ e. (start : ℕ) → Dropped (With f.marks None) (λ (r : Record). groups_due r start n) f.fields e)

-- each combination that breaks a profile has a number other than 0
abbrev pub Covered : ℕ → Profile → List ℕ → Type 0
Covered m p own = (c : ℕ) → c < 2 ^ m → breaks m p c ≡ true → 0 < entry own c

-- what can be read before a profile: none, and `eithers` tells the either combinations
pub record ProfileBefore (m : ℕ) (eithers : List ℕ) (r : Record) : Type 0 where
  pub plain : With m None r
  pub told : (c : ℕ) → c < 2 ^ m → is_either (r.standing c) ≡ ltb 0 (entry eithers c)

-- a profile, or none
abbrev pub ProfileRead : List ℕ → Form → Form → Result Profile Refusal → Type 0
ProfileRead eithers f g result =
    MatchResult result (λ p. Carried (ProfileBefore f.marks eithers) perhaps end f.fields g.fields p) (λ e. Dropped (ProfileBefore f.marks eithers) perhaps f.fields e)

-- behind all sections; 01's layout has no profile
abbrev pub EndFound : Layout → ℕ → List ℕ → Fields → Fields → Profile → Type 0
EndFound First m eithers f g p = (g ≡ f) × (p ≡ None)
EndFound Today m eithers f g p = Carried (ProfileBefore m eithers) perhaps end f g p

abbrev pub EndMissed : Layout → ℕ → List ℕ → Fields → Refusal → Type 0
EndMissed First m eithers f e = ⊥
EndMissed Today m eithers f e = Dropped (ProfileBefore m eithers) perhaps f e

abbrev pub EndRead : Layout → List ℕ → Form → Form → Result Profile Refusal → Type 0
EndRead layout eithers f g result = MatchResult result (λ p. EndFound layout f.marks eithers f.fields g.fields p) (λ e. EndMissed layout f.marks eithers f.fields e)

-- parts of which a sheet can be worked out, and the bytes read as that
pub record PartsFound (layout : Layout) (t : List ℕ) (p : Parts) : Type 0 where
  pub marks : p.marks ≤ most_marks
  pub outs : Addable p.marks p.outs
  pub eithers : Addable p.marks p.eithers
  pub times : Addable p.marks p.times
  pub reads : {s : Sheet} → s ≡ sheet_from entries p.marks p.profile (entry p.outs) (entry p.eithers) (entry p.times) → ReadsBy layout most_marks entries t (read_as (Ok s))

-- the parts of the sheet that the bytes read as; or the refusal that they read as
abbrev pub PartsRead : Layout → List ℕ → Result Parts Refusal → Type 0
PartsRead layout t result = MatchResult result (λ p. PartsFound layout t p) (λ e. ReadingBy layout most_marks t (refused (number_of e) (place_of e)))
