use Rattle.std.proofs.Common.{Ok, Err}
use Rattle.lines_core.specs.declared.serving.SessionFault.TheVariants as faults
use Rattle.session_core.specs.Stopping.{HasCome-stops, HasCome-breaks}
use Rattle.session_core.proofs.laws.parked_session_ends.Goals as goal

pub returns-clause-over : goal.returns-clause-over
returns-clause-over g c = λ admission desk parked left left' taken taken' later rest come told wrote over. HasCome-stops desk admission parked (Ok tt) left left' taken taken' later rest come told wrote over

pub returns-clause-read : goal.returns-clause-read
returns-clause-read g c = λ admission desk parked left left' taken taken' later rest come told wrote. HasCome-stops desk admission parked (Err faults.Read) left left' taken taken' later rest come told wrote tt

pub returns-clause-bound : goal.returns-clause-bound
returns-clause-bound g c = λ admission desk parked left left' taken taken' later rest come told wrote none. HasCome-stops desk admission parked (Err faults.Bound) left left' taken taken' later rest come told wrote none

pub returns-clause-write : goal.returns-clause-write
returns-clause-write g c = λ admission desk parked left left' taken taken' come. HasCome-breaks desk admission parked left left' taken taken' come
