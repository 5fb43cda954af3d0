-- `smelvock_marshal::head::put_head`: fan and limit, the counts, the finger and the stamp are all of the head's words.
use Rattle.smelvock_marshal.proofs.HeadLaws.{put_whole}
use Rattle.smelvock_marshal.proofs.head.put_head.Goals as goal

pub returns : goal.returns
returns c =
    let args = c.args in
    let pre = c.requires in
    let put-counts = c.put_counts in
    let put-finger = c.put_finger in
    put_whole args.h args.head.now _ _ _ pre put-counts.ensures put-finger.ensures c.put_stamp.ensures
