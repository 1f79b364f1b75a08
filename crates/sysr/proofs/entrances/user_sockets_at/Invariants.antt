use Rattle.std.proofs.Common.{◌≡◌, map, take}
use Rattle.sysr.proofs.entrances.user_sockets_at.Given as goal

-- the sockets are those of the words so far
abbrev pub invariant-loop-word : goal.invariant-loop-word
invariant-loop-word l =
    map (λ s. s.user) l.sockets.items ≡ map (λ w. w.user) (take l.word-index l.words)
