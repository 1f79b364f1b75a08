use Rattle.entry_core.proofs.Coming.{stays}
use Rattle.entry_core.proofs.laws.right_stays.Goals as goal

pub returns : goal.returns
returns c = λ admission user more left left1 left2 taken taken1 later come read.
    stays admission user more left left1 left2 taken taken1 later come read
