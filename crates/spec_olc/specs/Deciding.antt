-- How an event changes the content.
use Rattle.std.specs.Prelude.{◌≡◌, ℕ, Bool, Some}
use Rattle.spec_map.specs.Legal.{IsClosureCalled, reply_of, after}
use Rattle.spec_map.specs.Map.{Pairs, lookup}
use Rattle.spec_olc.specs.Calls.{map_call, map_reply}
use Rattle.spec_olc.specs.Local.{answers}
use Rattle.spec_olc.specs.Content.{IsContent}
use Rattle.spec_olc.specs.State.{State, CallState}
use Rattle.spec_olc.specs.declared.types.Op.{Op}
use Rattle.spec_olc.specs.declared.types.Outcome.{Outcome}
use Rattle.spec_olc.specs.declared.types.Outcome.TheVariants.{Decided}
use Rattle.spec_olc.specs.declared.types.Reply.{Reply}

module _ {M : Type 0} (same : M → M → Bool) where
  -- A decided call changes the content from m to n as the map's call does, and has its reply.
  pub record AppliesCall (m n : Pairs M) (call : CallState M) (reply : Reply M) : Type 0 where
    pub op : Op M
    pub op_is : call.op ≡ Some op
    pub asked : IsClosureCalled m (map_call op) (answers call op)
    pub replied : map_reply reply ≡ reply_of same m (map_call op) (answers call op)
    pub after : n ≡ after same m (map_call op) (answers call op)

  -- any other outcome leaves the content unchanged
  abbrev pub ContentAfter : Pairs M → Pairs M → CallState M → Outcome M → Type 0
  ContentAfter m n call (Decided reply) = AppliesCall m n call reply
  ContentAfter m n call _ = n ≡ m

  -- how a step of call `id` changes the content m
  pub record IsContentStep (m : Pairs M) (old new : State M) (id : ℕ) (out : Outcome M) : Type 0 where
    pub call : CallState M
    pub in_flight : lookup old.calls id ≡ Some call
    pub content : Pairs M
    pub content_is : IsContent new content
    pub carries : ContentAfter m content call out
