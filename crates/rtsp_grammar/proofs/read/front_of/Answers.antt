use Rattle.rtsp_grammar.proofs.ItemLemmas.{blank_of_window, frame_of_window, not_empty}
use Rattle.rtsp_grammar.proofs.read.front_of.Goals as goal

pub frame_front-requires-clause-front : goal.frame_front-requires-clause-front
frame_front-requires-clause-front c = blank_of_window c.args.bytes.now c.blank_len-blank.result (rw c.head_window-window.ensures at c.blank_len-blank.ensures).front

pub frame_front-requires-clause-few : goal.frame_front-requires-clause-few
frame_front-requires-clause-few c = (frame_of_window c.args.bytes.now c.split_at.result.1.now c.blank_len-blank.result (rw c.head_window-window.ensures at c.blank_len-blank.ensures).front
    (rw c.head_window-window.ensures at c.split_at.ensures.back) (not_empty c.split_at.result.1.now c.if-not-is_empty.ensures) c.if-message-eq36.true).1

pub frame_front-requires-clause-frame : goal.frame_front-requires-clause-frame
frame_front-requires-clause-frame c = (frame_of_window c.args.bytes.now c.split_at.result.1.now c.blank_len-blank.result (rw c.head_window-window.ensures at c.blank_len-blank.ensures).front
    (rw c.head_window-window.ensures at c.split_at.ensures.back) (not_empty c.split_at.result.1.now c.if-not-is_empty.ensures) c.if-message-eq36.true).0
