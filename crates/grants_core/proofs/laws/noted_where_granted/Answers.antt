use Rattle.grants_core.proofs.NotedLemmas.{noted-once_created, granted-from_marked, noted-from_granted, grantable_once_created, noted-lawful}
use Rattle.grants_core.proofs.laws.noted_where_granted.Goals as goal

pub returns : goal.returns
returns c = record {
  noted = noted-once_created;
  made = granted-from_marked;
  made_noted = noted-from_granted;
  created = grantable_once_created;
  lawful = noted-lawful;
}
