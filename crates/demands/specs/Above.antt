-- Entries at 3^m and above are neither read nor changed by a call on a sheet (01, 'The sheet'): two sheets that agree below get the same answers.
use Rattle.std.specs.Prelude.{ℕ, List}
use Rattle.sheet.specs.Limits.{most_marks, entries}
use Rattle.sheet.specs.Answers.{ClassSize}
use Rattle.sheet.specs.Entries.{Long, Agree}
use Rattle.sheet.specs.declared.Sheet.{Sheet}
use Rattle.sheet.specs.Told.{Value}
use Rattle.changes.specs.Calls.{did_of}
use Rattle.changes.specs.Promises.{Alike, AboveKept}
use Rattle.changes.specs.declared.Call.{Call}
use Rattle.listing.specs.Listing.{Listed}
use Rattle.totals.specs.Totals.{Totalled}
use Rattle.checking.specs.Answers.{Checked}
use Rattle.checking.specs.Finding.{Finding}
use Rattle.stored.specs.Answers.{Writes}
use Rattle.pla.specs.Answers.{WritesPla}

pub record NotRead (s u : Sheet) : Type 0 where
  pub did : (k : Call) → Alike (did_of most_marks s k) (did_of most_marks u k)
  pub class_size : {v : Value} → ClassSize most_marks s v → ClassSize most_marks u v
  pub list : {area later : List ℕ} {v : Value} → Listed most_marks s area v later → Listed most_marks u area v later
  pub check : {l : List ℕ} {x : Finding} → Checked most_marks s l x → Checked most_marks u l x
  pub total : {v : Value} → Totalled most_marks s v → Totalled most_marks u v
  pub write : {out later : List ℕ} {v : Value} → Writes most_marks s out v later → Writes most_marks u out v later
  pub write_pla : {out later : List ℕ} {v : Value} → WritesPla most_marks s out v later → WritesPla most_marks u out v later

pub record Above : Type 0 where
  pub not_read : (s u : Sheet) → Long entries s → Long entries u → Agree s u → NotRead s u
  pub not_changed : (s : Sheet) (k : Call) → AboveKept s (did_of most_marks s k).sheet
