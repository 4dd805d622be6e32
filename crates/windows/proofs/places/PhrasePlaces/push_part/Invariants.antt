-- The words of the part so far are added, and the phrase is the same.
use Rattle.std.proofs.Common.{◌≡◌, ◌-◌, take, drop, Some}
use Rattle.congruence.specs.NodeItems.{put_together}
use Rattle.windows.specs.Strings.{own_string, phrase_of}
use Rattle.windows.proofs.places.PhrasePlaces.push_part.Given as goal

abbrev pub invariant-loop-place : goal.invariant-loop-place
invariant-loop-place l =
    (l.self.phrase ≡ l.initial.self.phrase) × (own_string l.self ≡ put_together (own_string l.initial.self) (Some (take (l.place - l.start) (drop l.start (phrase_of l.initial.self)))))
