-- Call by call.
use Rattle.sheet.proofs.Agrees.{size_alike}
use Rattle.changes.proofs.Above.{did_alike, did_above}
use Rattle.listing.proofs.Agrees.{list_alike}
use Rattle.totals.proofs.Agrees.{total_alike}
use Rattle.checking.proofs.Agrees.{check_alike}
use Rattle.stored.proofs.Agrees.{writes_alike}
use Rattle.pla.proofs.Agrees.{writes_pla_alike}
use Rattle.demands.specs.Above.{Above}

pub above : Above
above = record {
  not_read = λ s u ls lu a. record {
    did = did_alike s u a ls lu;
    class_size = size_alike a;
    list = list_alike a;
    check = check_alike a;
    total = total_alike a;
    write = writes_alike a;
    write_pla = writes_pla_alike a;
  };
  not_changed = did_above;
}
