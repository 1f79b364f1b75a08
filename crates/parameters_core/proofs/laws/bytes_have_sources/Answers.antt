use Rattle.parameters_core.proofs.Sources.{each_source}
use Rattle.parameters_core.proofs.laws.bytes_have_sources.Goals as goal

pub returns : goal.returns
returns c = λ text last parts offset a h. each_source text parts last offset a h
