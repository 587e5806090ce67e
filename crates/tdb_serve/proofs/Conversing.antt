-- How a conversation goes on.
use Rattle.std.proofs.Common.{◌≡◌, ℕ, ◌+◌, ◌-◌, ◌<◌, ◌≤◌, IsTrue, List, [], ◌∷◌, ◌++◌}
use Rattle.std.proofs.Common.{Option, None, length, arith, sym, refl, ◌∙◌, ap, subst, append_assoc, append-nil, length-append}
use Rattle.std.proofs.lemmas.Grind.{flat_map-append}
use Rattle.std.proofs.lemmas.List.Elements.{All-push}
use Rattle.tdb_stream.specs.SinkContent.{SinkContent}
use Rattle.tdb_stream.specs.SourceContent.{SourceContent}
use Rattle.tdb_script.specs.ReplySpelling.{reply_spelling}
use Rattle.tdb_script.specs.declared.reply.Reply.{Reply}
use Rattle.tdb_script.specs.declared.reply.Reply.TheVariants.{Bye}
use Rattle.tdb_serve.specs.Gave.{Gave, HasNoLineFeed}
use Rattle.tdb_serve.specs.Replies.{Conversation, NoBye, lines_text, replies_text}
use Rattle.tdb_serve.specs.Stopping.{IsNextLine, LeavesUnanswered}
use Rattle.tdb_serve.specs.Unread.{unread, HasEnded}
use Rattle.tdb_serve.specs.declared.script_lines.ScriptLines.{ScriptLines}
use Rattle.tdb_serve.specs.declared.script_lines.TheConstants.{MAX_SCRIPT_LENGTH}

-- nothing was taken
abbrev pub no_conversation : (came : SourceContent) → Conversation came came
no_conversation came = record {
  taken = [];
  lines = [];
  unanswered = [];
  replies = [];
  next = None;
  gave = λ told. refl;
  limit = omega arith;
  split = refl;
  each = λ k d h. absurd (omega (arith, h));
  one_each = refl;
}

-- what is left where the lines have ended
abbrev pub ended_unanswered : (came gone : SourceContent) (old new : ScriptLines) → HasEnded came gone old new
    → LeavesUnanswered came gone old new
ended_unanswered came gone old new e = record {
  bytes = e.handed_on.bytes;
  unanswered = e.tail;
  gave = e.handed_on.gave;
  counted = e.handed_on.counted;
  all = e.handed_on.moved ∙ ap (λ (l : List ℕ). e.tail ++ l) e.all ∙ append-nil e.tail;
}

-- the lines so far were answered, and each reply put
pub record Conversing (came now : SourceContent) (before after : SinkContent) (lines : ScriptLines) : Type 0 where
  pub conversation : Conversation came now
  pub unread_is : conversation.unanswered ≡ unread lines
  pub counted : lines.taken ≡ length conversation.taken
  pub no_bye : NoBye conversation.replies
  pub put : IsTrue before.tells → after.held ≡ before.held ++ replies_text conversation.replies

-- before the first line
abbrev pub conversing_none : (came : SourceContent) (before : SinkContent) (lines : ScriptLines) → unread lines ≡ [] → lines.taken ≡ 0
    → Conversing came came before before lines
conversing_none came before lines none zero = record {
  conversation = no_conversation came;
  unread_is = sym none;
  counted = zero;
  no_bye = λ k d h. absurd (omega (arith, h));
  put = λ told. sym (append-nil before.held);
}

module _ (came now later : SourceContent) (same : now.tells ≡ came.tells) (lines next : ScriptLines) (c : Conversation came now)
    (unread_is : c.unanswered ≡ unread lines) (counted : lines.taken ≡ length c.taken) where
  abbrev pub gave_more : (bytes : List ℕ) → Gave now later bytes → Gave came later (c.taken ++ bytes)
  gave_more bytes gave told = c.gave told ∙ ap (λ (l : List ℕ). c.taken ++ l) (gave (subst IsTrue (sym same) told))
      ∙ sym (append_assoc c.taken bytes later.rest)

  abbrev pub split_more : (bytes : List ℕ) → c.taken ++ bytes ≡ lines_text c.lines ++ (unread lines ++ bytes)
  split_more bytes = ap (λ (l : List ℕ). l ++ bytes) (c.split ∙ ap (λ (l : List ℕ). lines_text c.lines ++ l) unread_is)
      ∙ append_assoc (lines_text c.lines) (unread lines) bytes

  -- more was taken, and no further line is answered
  abbrev pub left_unanswered : LeavesUnanswered now later lines next → Conversation came later
  left_unanswered left = record {
    taken = c.taken ++ left.bytes;
    lines = c.lines;
    unanswered = left.unanswered;
    replies = c.replies;
    next = None;
    gave = gave_more left.bytes left.gave;
    limit = omega (arith, counted, left.counted, next.limit, length-append c.taken left.bytes);
    split = split_more left.bytes ∙ ap (λ (l : List ℕ). lines_text c.lines ++ l) left.all;
    each = c.each;
    one_each = c.one_each;
  }

  module _ (line : List ℕ) (n : IsNextLine now later lines next line) where
    pub limit_more : length (c.taken ++ n.handed_on.bytes) ≤ MAX_SCRIPT_LENGTH
    limit_more = omega (arith, counted, n.handed_on.counted, next.limit, length-append c.taken n.handed_on.bytes)

    -- the next line was read, and no reply to it was put whole
    abbrev pub unanswered_line : Option Reply → Conversation came later
    unanswered_line cut = record {
      taken = c.taken ++ n.handed_on.bytes;
      lines = c.lines;
      unanswered = line ++ 10 ∷ unread next;
      replies = c.replies;
      next = cut;
      gave = gave_more n.handed_on.bytes n.handed_on.gave;
      limit = limit_more;
      split = split_more n.handed_on.bytes ∙ ap (λ (l : List ℕ). lines_text c.lines ++ l)
          (n.handed_on.moved ∙ append_assoc line (10 ∷ []) (unread next));
      each = c.each;
      one_each = c.one_each;
    }

    -- the next line is answered
    abbrev pub answered_line : Reply → Conversation came later
    answered_line reply = record {
      taken = c.taken ++ n.handed_on.bytes;
      lines = c.lines ++ line ∷ [];
      unanswered = unread next;
      replies = c.replies ++ reply ∷ [];
      next = None;
      gave = gave_more n.handed_on.bytes n.handed_on.gave;
      limit = limit_more;
      split = split_more n.handed_on.bytes ∙ ap (λ (l : List ℕ). lines_text c.lines ++ l) n.handed_on.moved
          ∙ sym (append_assoc (lines_text c.lines) (line ++ 10 ∷ []) (unread next))
          ∙ ap (λ (l : List ℕ). l ++ unread next) (ap (λ (l : List ℕ). lines_text c.lines ++ l) (sym (append-nil (line ++ 10 ∷ [])))
          ∙ sym (flat_map-append (λ (l : List ℕ). l ++ 10 ∷ []) c.lines (line ∷ [])));
      each = All-push HasNoLineFeed c.lines line c.each n.no_line_feed;
      one_each = omega (arith, c.one_each, length-append c.replies (reply ∷ []), length-append c.lines (line ∷ []));
    }

-- the replies with one more
pub replies_more : (replies : List Reply) (reply : Reply) → replies_text (replies ++ reply ∷ []) ≡ replies_text replies ++ reply_spelling
    reply
replies_more replies reply = flat_map-append (λ (r : Reply). reply_spelling r) replies (reply ∷ [])
    ∙ ap (λ (l : List ℕ). replies_text replies ++ l) (append-nil (reply_spelling reply))

module _ (came now later : SourceContent) (same : now.tells ≡ came.tells) (before after last : SinkContent)
    (still : after.tells ≡ before.tells) (lines next : ScriptLines) (s : Conversing came now before after lines)
    (line : List ℕ) (n : IsNextLine now later lines next line) (reply : Reply)
    (put : IsTrue after.tells → last.held ≡ after.held ++ reply_spelling reply) where
  pub held_more : IsTrue before.tells → last.held ≡ before.held ++ replies_text (s.conversation.replies ++ reply ∷ [])
  held_more told = put (subst IsTrue (sym still) told) ∙ ap (λ (l : List ℕ). l ++ reply_spelling reply) (s.put told)
      ∙ append_assoc before.held (replies_text s.conversation.replies) (reply_spelling reply)
      ∙ ap (λ (l : List ℕ). before.held ++ l) (sym (replies_more s.conversation.replies reply))

  -- the line was answered, and the script goes on
  abbrev pub conversing_on : (reply ≡ Bye → ⊥) → Conversing came later before last next
  conversing_on not_bye = record {
    conversation = answered_line came now later same lines next s.conversation s.unread_is s.counted line n reply;
    unread_is = refl;
    counted = omega (arith, n.handed_on.counted, s.counted, length-append s.conversation.taken n.handed_on.bytes);
    no_bye = All-push (λ (r : Reply). r ≡ Bye → ⊥) s.conversation.replies reply s.no_bye not_bye;
    put = held_more;
  }

-- less is left to be read
pub less_left : (now later : SourceContent) (lines next : ScriptLines) (line : List ℕ) → IsNextLine now later lines next line
    → MAX_SCRIPT_LENGTH - next.taken + length (unread next) < MAX_SCRIPT_LENGTH - lines.taken + length (unread lines)
less_left now later lines next line n =
    let moved = simp length-append at (ap length n.handed_on.moved) in
    omega (arith, moved, n.handed_on.counted, next.limit)
