pub mod SeatsCross
