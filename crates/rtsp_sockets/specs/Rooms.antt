-- How many bytes may wait to be written to a connection.
use Rattle.std.specs.Prelude.{ℕ, ◌+◌, ◌-◌, ◌*◌, ◌/◌, min, max}
use Rattle.rtsp_sockets.specs.declared.message.Message.{Message}
use Rattle.rtsp_sockets.specs.declared.message.Message.TheVariants.{Response, Frame}

abbrev pub frame_room : ℕ
frame_room = 64 * 1024

abbrev pub all_room : ℕ
all_room = 256 * 1024

-- however much is lent
abbrev pub most_room : ℕ
most_room = 4 * 1024 * 1024

-- the most that is lent to a connection, and the most that waits once a frame waits too
abbrev pub most_lent : ℕ
most_lent = most_room - all_room

abbrev pub most_frames : ℕ
most_frames = frame_room + most_lent

-- how many bytes may wait once a message waits too, beside those that are lent
abbrev pub room_of : Message → ℕ
room_of Response = all_room
room_of Frame = frame_room

-- the bytes of two seconds of so many bits a second, within both bounds
abbrev pub room_of_rate : ℕ → ℕ
room_of_rate bits = max frame_room (min most_frames (2 * bits / 8))
